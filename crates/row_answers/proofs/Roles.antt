-- A system record has its own identifier: where the role of a record is one of the identifiers, it is that in its columns
-- 1 to 11.
-- Assumes nothing.
use Prim.Native.Nat.{ℕ, ◌<◌, ◌≤◌}
use mathlib.Core.Path.{◌≡◌}
use native.Mathlib.Omega.{arith}
use lib.Dec.{eqb}
use borrow.Author.Tests.{eqb-true}
use Rattle.laws.proofs.Booleans.{either-as}
use Rattle.paper_record.specs.Identifier.{ENTRY, SUBENT, NOSUBENT, BIB, NOBIB, ENDBIB, COMMON, NOCOMMON, ENDCOMMON, DATA}
use Rattle.paper_record.specs.Identifier.{NODATA, ENDDATA, ENDSUBENT, ENDENTRY, OTHER, is_end}
use Rattle.paper_rules.specs.declared.types.Phase.{Phase}
use Rattle.paper_rules.specs.declared.types.Phase.TheVariants.{Start, Opened, InSubentry, InBib, AfterBib, InCommon}
use Rattle.paper_rules.specs.declared.types.Phase.TheVariants.{AfterCommon, InData, AfterData, Between, Done}
use Rattle.paper_rules.specs.declared.types.Track.{Track}
use Rattle.paper_rules.specs.State.{HEADINGS, UNITS}
use Rattle.paper_rules.specs.Roles.{COMMON-HEADING, COMMON-UNIT, COMMON-VALUE, DATA-HEADING, DATA-UNIT, DATA-VALUE}
use Rattle.paper_rules.specs.Role.{only, either as one_of, bib_role, table_role, data_role, next_role, all_read, role_in}
use Rattle.laws.proofs.EitherWay.{either_way}

-- the role is no identifier, or that of the record
abbrev Own : ℕ → ℕ → Type 0
Own k role = role < OTHER → k ≡ role

inner : (k role : ℕ) → OTHER ≤ role → Own k role
inner k role l h = absurd (omega arith)

only-own : (a k : ℕ) → Own k (only a k)
only-own a k = either-as (Own k) (eqb k a) _ _ (λ q h. eqb-true k a q) (λ q. inner k _ (omega arith))

either-own : (a b k : ℕ) → Own k (one_of a b k)
either-own a b k = either-as (Own k) (eqb k a) _ _ (λ q h. eqb-true k a q) (λ q. only-own b k)

next-own : (k : ℕ) → Own k (next_role k)
next-own k = either-as (Own k) (eqb k SUBENT) _ _ (λ q h. eqb-true k SUBENT q) (λ q. either-own NOSUBENT ENDENTRY k)

bib-own : (t : Track) (k : ℕ) → Own k (bib_role t k)
unfolding bib_role
bib-own t k =
    either_way (Own k) (eqb t.section t.bib.records) _ _ (only-own ENDBIB k)
    (either_way (Own k) (eqb k OTHER) _ _ (inner k _ (omega arith)) (inner k _ (omega arith)))

data-own : (t : Track) (k : ℕ) → Own k (data_role t k)
unfolding data_role
data-own t k =
    either_way (Own k) (eqb t.subentry.number 1) _ _ (only-own ENDSUBENT k) (either-own DATA NODATA k)

table-own : (end heading unit value : ℕ) → OTHER ≤ heading → OTHER ≤ unit → OTHER ≤ value → (t : Track) (k : ℕ)
    → Own k (table_role end heading unit value t k)
unfolding table_role
table-own end heading unit value h u v t k =
    either_way (Own k) (all_read t) _ _ (only-own end k)
    (either_way (Own k) (is_end k) _ _ (inner k _ (omega arith))
    (either_way (Own k) (eqb t.table.row HEADINGS) _ _ (inner k heading h)
    (either_way (Own k) (eqb t.table.row UNITS) _ _ (inner k unit u) (inner k value v))))

pub role-own : (p : Phase) (t : Track) (k : ℕ) → role_in p t k < OTHER → k ≡ role_in p t k
unfolding role_in
role-own Start t k = only-own ENTRY k
role-own Opened t k = only-own SUBENT k
role-own InSubentry t k = either-own BIB NOBIB k
role-own InBib t k = bib-own t k
role-own AfterBib t k = either-own COMMON NOCOMMON k
role-own InCommon t k =
    table-own ENDCOMMON COMMON-HEADING COMMON-UNIT COMMON-VALUE (omega arith) (omega arith) (omega arith) t k
role-own AfterCommon t k = data-own t k
role-own InData t k =
    table-own ENDDATA DATA-HEADING DATA-UNIT DATA-VALUE (omega arith) (omega arith) (omega arith) t k
role-own AfterData t k = only-own ENDSUBENT k
role-own Between t k = next-own k
role-own Done t k = inner k _ (omega arith)
