-- Those that lend a context and a table, and what becomes of what they lend.
use Rattle.std.specs.Prelude.{◌≡◌, ℕ, List, Some, slice_get, slice_set}
use Rattle.std.specs.Borrow.{MutBor}
use Rattle.std.specs.Fn.{Once}
use Rattle.wasi_streams.specs.Table.{Table}
use Rattle.wasi_p2_calls.specs.Views.{Files, files_of}
use Rattle.wasi_p2_calls.specs.declared.context.WasiFilesystemCtx.{WasiFilesystemCtx}
use Rattle.wasi_p2.specs.declared.views.FilesystemPair.{FilesystemPair}

-- the two of a pair
abbrev pub pair_of : {H : Type 0} → FilesystemPair H → Files H
pair_of pair = files_of pair.ctx pair.table

-- a function of a context and a table
abbrev pub OnFiles : Type 0 → Type 0 → Type 0 → Type 1
OnFiles F H R = Once F (MutBor (WasiFilesystemCtx H) × (MutBor Table × Unit {0}))
    (R × (MutBor (WasiFilesystemCtx H) × (MutBor Table × Unit {0})))

-- it may be called at these
abbrev pub TakesFiles : {F H R : Type 0} → OnFiles F H R → F → Files H → Type 0
TakesFiles {H = H} g f old = (c : MutBor (WasiFilesystemCtx H)) (t : MutBor Table) → c.now ≡ old.ctx → t.now ≡ old.table
    → g.pre f (c, (t, tt))

-- it was called at these, gave this, and left those
pub record GivesFiles {F H R : Type 0} (g : OnFiles F H R) (f : F) (old : Files H) (r : R) (new : Files H) : Type 0 where
  pub ctx : MutBor (WasiFilesystemCtx H)
  pub table : MutBor Table
  pub left_ctx : MutBor (WasiFilesystemCtx H)
  pub left_table : MutBor Table
  pub shows_ctx : ctx.now ≡ old.ctx
  pub shows_table : table.now ≡ old.table
  pub leaves_ctx : left_ctx.now ≡ new.ctx
  pub leaves_table : left_table.now ≡ new.table
  pub met : g.post f (ctx, (table, tt)) (r, (left_ctx, (left_table, tt)))

-- the pair at one place changes so, and every other stays
pub record OneDoes {A : Type 0} (olds news : List A) (id : ℕ) (Did : A → A → Type 0) : Type 0 where
  pub old : A
  pub new : A
  pub was : slice_get olds id ≡ Some old
  pub did : Did old new
  pub others : news ≡ slice_set olds id new

-- of the pair at one place
abbrev pub AtOne : {A : Type 0} → List A → ℕ → (A → Type 0) → Type 0
AtOne {A = A} all id P = (a : A) → slice_get all id ≡ Some a → P a
