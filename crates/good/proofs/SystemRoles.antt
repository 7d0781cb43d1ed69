-- The system records inside a subentry, and the END records: which of the three kinds each is of. Assumes nothing.
use mathlib.Core.Path.{refl}
use Rattle.paper_record.specs.Identifier.{BIB, NOBIB, ENDBIB, COMMON, NOCOMMON, ENDCOMMON, DATA, NODATA, ENDDATA, ENDSUBENT}
use Rattle.paper_record.specs.Identifier.{ENDENTRY}
use Rattle.paper_record.proofs.NameTable.{end-letters}
use Rattle.paper_rules.specs.Every.{expected_identification, expected_sequence}
use Rattle.paper_rules.specs.System.{form_n1, form_n2}
use Rattle.good.proofs.Systems.{Inside, FreeRole, OpenRole, EndRole}

inside-NOBIB : Inside NOBIB
unfolding expected_identification expected_sequence
inside-NOBIB =
    record {
      system = refl;
      not-opening = refl;
      marked = λ c r. (λ m. m, λ m. m);
    }

inside-NOCOMMON : Inside NOCOMMON
unfolding expected_identification expected_sequence
inside-NOCOMMON =
    record {
      system = refl;
      not-opening = refl;
      marked = λ c r. (λ m. m, λ m. m);
    }

inside-NODATA : Inside NODATA
unfolding expected_identification expected_sequence
inside-NODATA =
    record {
      system = refl;
      not-opening = refl;
      marked = λ c r. (λ m. m, λ m. m);
    }

pub free-NOBIB : FreeRole NOBIB
unfolding form_n1 form_n2
free-NOBIB =
    record {
      inside = inside-NOBIB;
      form1 = rw (end-letters NOBIB);
      form2 = refl;
      not-section = refl;
      not_end = end-letters NOBIB;
    }

pub free-NOCOMMON : FreeRole NOCOMMON
unfolding form_n1 form_n2
free-NOCOMMON =
    record {
      inside = inside-NOCOMMON;
      form1 = rw (end-letters NOCOMMON);
      form2 = refl;
      not-section = refl;
      not_end = end-letters NOCOMMON;
    }

pub free-NODATA : FreeRole NODATA
unfolding form_n1 form_n2
free-NODATA =
    record {
      inside = inside-NODATA;
      form1 = rw (end-letters NODATA);
      form2 = refl;
      not-section = refl;
      not_end = end-letters NODATA;
    }

inside-BIB : Inside BIB
unfolding expected_identification expected_sequence
inside-BIB =
    record {
      system = refl;
      not-opening = refl;
      marked = λ c r. (λ m. m, λ m. m);
    }

inside-COMMON : Inside COMMON
unfolding expected_identification expected_sequence
inside-COMMON =
    record {
      system = refl;
      not-opening = refl;
      marked = λ c r. (λ m. m, λ m. m);
    }

inside-DATA : Inside DATA
unfolding expected_identification expected_sequence
inside-DATA =
    record {
      system = refl;
      not-opening = refl;
      marked = λ c r. (λ m. m, λ m. m);
    }

pub open-BIB : OpenRole BIB
unfolding form_n1 form_n2
open-BIB = record { inside = inside-BIB; form1 = refl; form2 = refl; section = refl }

pub open-COMMON : OpenRole COMMON
unfolding form_n1 form_n2
open-COMMON = record { inside = inside-COMMON; form1 = refl; form2 = refl; section = refl }

pub open-DATA : OpenRole DATA
unfolding form_n1 form_n2
open-DATA = record { inside = inside-DATA; form1 = refl; form2 = refl; section = refl }

pub end-BIB : EndRole ENDBIB
unfolding form_n1 form_n2
end-BIB =
    record {
      system = refl;
      not-opening = refl;
      form1 = rw (end-letters ENDBIB);
      form2 = refl;
      not-section = refl;
      end = end-letters ENDBIB;
    }

pub end-COMMON : EndRole ENDCOMMON
unfolding form_n1 form_n2
end-COMMON =
    record {
      system = refl;
      not-opening = refl;
      form1 = rw (end-letters ENDCOMMON);
      form2 = refl;
      not-section = refl;
      end = end-letters ENDCOMMON;
    }

pub end-DATA : EndRole ENDDATA
unfolding form_n1 form_n2
end-DATA =
    record {
      system = refl;
      not-opening = refl;
      form1 = rw (end-letters ENDDATA);
      form2 = refl;
      not-section = refl;
      end = end-letters ENDDATA;
    }

pub end-SUBENT : EndRole ENDSUBENT
unfolding form_n1 form_n2
end-SUBENT =
    record {
      system = refl;
      not-opening = refl;
      form1 = rw (end-letters ENDSUBENT);
      form2 = refl;
      not-section = refl;
      end = end-letters ENDSUBENT;
    }

pub end-ENTRY : EndRole ENDENTRY
unfolding form_n1 form_n2
end-ENTRY =
    record {
      system = refl;
      not-opening = refl;
      form1 = rw (end-letters ENDENTRY);
      form2 = refl;
      not-section = refl;
      end = end-letters ENDENTRY;
    }
