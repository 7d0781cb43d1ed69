use Rattle.paper_record.specs.Flags.{is_flag}
use Rattle.paper_number.specs.Whole.{Few}
use mathlib.Core.Bool.{false, not, true}
use mathlib.Core.Path.{◌≡◌, ap, subst}
use mathlib.Core.Path.{◌∙◌, sym}
use Rattle.rules_flags.proofs.Wrong.{wrong-none, wrong-raised, wrong-broken, wrong-whole}
use Rattle.rules_flags.proofs.flags.is_wrong.Goals as goal

pub returns-then-is_flag : goal.returns-then-is_flag
returns-then-is_flag c =
    let e : is_flag c.args.h ≡ true = sym c.is_flag-in-Whole.ensures ∙ c.if-is_flag.true in
    let w = sym c.whole_read.ensures.value ∙ c.in-Whole.is in
    ap not c.code_met.ensures
    ∙ (rw e at (wrong-whole c.args.bib.now c.args.bib001.now c.args.h c.args.f _ w))

pub returns-else-is_flag : goal.returns-else-is_flag
returns-else-is_flag c =
    let e : is_flag c.args.h ≡ false = sym c.is_flag-in-Whole.ensures ∙ c.if-is_flag.false in
    let w = sym c.whole_read.ensures.value ∙ c.in-Whole.is in
    c.if-is_flag.false ∙ (rw e at (wrong-whole c.args.bib.now c.args.bib001.now c.args.h c.args.f _ w))

pub code_met-requires : goal.code_met-requires
code_met-requires c = subst Few c.in-Whole.is c.whole_read.ensures.few

pub returns-in-NoNumber : goal.returns-in-NoNumber
returns-in-NoNumber c =
    wrong-none c.args.bib.now c.args.bib001.now c.args.h c.args.f
    (sym c.whole_read.ensures.value ∙ c.in-NoNumber.is)

pub returns-in-Raised : goal.returns-in-Raised
returns-in-Raised c =
    wrong-raised c.args.bib.now c.args.bib001.now c.args.h c.args.f
    (sym c.whole_read.ensures.value ∙ c.in-Raised.is)

pub returns-in-Broken : goal.returns-in-Broken
returns-in-Broken c =
    c.is_flag.ensures
    ∙ wrong-broken c.args.bib.now c.args.bib001.now c.args.h c.args.f
    (sym c.whole_read.ensures.value ∙ c.in-Broken.is)
