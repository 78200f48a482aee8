-- The order of keys.
use Rattle.std.proofs.Common.{◌≡◌, refl}
use Rattle.std.specs.Cmp.{IsTotalOrder}
use Rattle.std.specs.Ordering.{nat_cmp, ordering_then}
use Rattle.std.specs.Cmp.Lexicographic.{slice_cmp}
use Rattle.std.proofs.lemmas.Cmp.{on_total, then_total, nat_cmp_total, nat_list_cmp_total}
use Rattle.std.specs.declared.cmp.Ordering.TheVariants.{Less, Equal, Greater}
use Rattle.std.specs.FinMap.{IsAntisymmetric, nat_cmp-IsAntisymmetric, slice_cmp-IsAntisymmetric}
use Rattle.wasi_tree_index.specs.DirEntryKeys.{Key, key_cmp}

pub key_total : IsTotalOrder key_cmp
key_total = then_total (on_total (λ (k : Key). k.0) nat_cmp_total) (on_total (λ (k : Key). k.1) nat_list_cmp_total)

-- only equal keys tie
pub key_exact : IsAntisymmetric key_cmp
key_exact a b is = elim (nat_cmp a.0 b.0) as (λ q. nat_cmp a.0 b.0 ≡ q → ordering_then q (slice_cmp nat_cmp a.1 b.1) ≡ Equal → a ≡ b) [
  | Less ↦ λ e h. absurd (cc)
  | Equal ↦ λ e h. let n = nat_cmp-IsAntisymmetric a.0 b.0 e in
      let s = slice_cmp-IsAntisymmetric nat_cmp-IsAntisymmetric a.1 b.1 h in λ i. (n i, s i)
  | Greater ↦ λ e h. absurd (cc)
] refl is
