-- A call of one view among several.
use Rattle.std.proofs.Common.{ℕ, List}
use Rattle.wasi_p2.specs.Named.{OneDoes}

-- what is done to the pair says the more of it
pub one_so : {A : Type 0} (olds news : List A) (id : ℕ) {Did Did' : A → A → Type 0} → OneDoes olds news id Did
    → ((old new : A) → Did old new → Did' old new) → OneDoes olds news id Did'
one_so olds news id one so = record {
  old = one.old;
  new = one.new;
  was = one.was;
  did = so one.old one.new one.did;
  others = one.others;
}
