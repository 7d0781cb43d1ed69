use mathlib.Core.Path.{refl}
use borrow.Author.Rules.{rules}
use Rattle.files_passing.proofs.raising.raised.Goals as goal

pub overflow_add-record : goal.overflow_add-record
overflow_add-record c = let h = c.requires.room _ _ c.in-Equal.is in search rules

pub returns-in-Alone : goal.returns-in-Alone
returns-in-Alone c = rw c.in-Alone.is refl

pub returns-in-Count : goal.returns-in-Count
returns-in-Count c = rw c.in-Count.is refl

pub returns-in-Range : goal.returns-in-Range
returns-in-Range c = rw c.in-Range.is refl

pub returns-in-Previous : goal.returns-in-Previous
returns-in-Previous c = rw c.in-Previous.is refl

pub returns-in-Equal : goal.returns-in-Equal
returns-in-Equal c = rw c.in-Equal.is refl

pub returns-in-Pointer : goal.returns-in-Pointer
returns-in-Pointer c = rw c.in-Pointer.is refl

pub returns-in-Expected : goal.returns-in-Expected
returns-in-Expected c = rw c.in-Expected.is refl
