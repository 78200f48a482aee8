-- What pages end as, where a `&mut` to one of their things is returned.
use Rattle.std.specs.Prelude.{ℕ, Option}
use Rattle.std.specs.Borrow.{Lends, LendsIf, Fml, RattleType, MutBor}
use Rattle.std.specs.FinMap.{FinMap, insert}
use Rattle.std.specs.Ordering.{nat_cmp}
use Rattle.wasi_paged_map.specs.contracts.pages.Pages.{the_row}

module _ (T : RattleType) (s : MutBor (FinMap nat_cmp T.Denot)) (n : ℕ) where
  -- once the borrow r ends, the number has what was last written through r
  abbrev pub lends_value : MutBor T.Denot → Fml
  lends_value r = Lends (the_row T) T s r (insert s.now n)

  -- the same where r is a reference, and at `None` all stays as it is
  abbrev pub lends_get : Option (MutBor T.Denot) → Fml
  lends_get r = LendsIf (the_row T) T s r (insert s.now n) s.now
