use Rattle.std.proofs.Common.{◌≡◌, ◌<◌, ◌≤◌, ◌∙◌, ℕ, List, true, length, drop, sym, ap, subst, arith}
use Rattle.std.specs.Prelude.{is_some}
use Rattle.std.proofs.lemmas.Bool.{true≢false}
use Rattle.std.specs.declared.vec.Vec.{Vec}
use Rattle.std.specs.FinMap.{find}
use Rattle.wasi_tree_index.specs.declared.key.DirEntryKey.{DirEntryKey}
use Rattle.wasi_tree_index.specs.Fronts.{list_at}
use Rattle.wasi_tree_index.specs.Places.{place_in, list_place, first_at}
use Rattle.wasi_tree_index.specs.DirEntryKeys.{Key, key_cmp}
use Rattle.wasi_tree_index.specs.Blocks.{block_entries, all_entries, AreBlocks}
use Rattle.wasi_tree_index.proofs.RowLemmas.{find_none}
use Rattle.wasi_tree_index.proofs.BlockLemmas.{find_here, found_within, put_found, put_kept}
use Rattle.wasi_tree_index.proofs.blocks.set.Goals as goal

module _ {Y : Type 0} (key : Key) (bs : List (Vec DirEntryKey Y)) (h : AreBlocks bs)
    (held : is_some (find key_cmp key (all_entries bs)) ≡ true) where
  -- a key that is held has a block
  held_within : list_place key_cmp block_entries key bs < length bs
  held_within =
      let not_past : length bs ≤ list_place key_cmp block_entries key bs → ⊥ =
      λ le. true≢false (sym held ∙ ap is_some (find_none key bs le)) in omega arith

  -- and an entry at its place
  held_here : (k : ℕ) → k ≡ list_place key_cmp block_entries key bs → (at : ℕ) → at ≡ place_in key_cmp key (list_at block_entries bs k)
      → is_some (first_at key_cmp key (drop at (list_at block_entries bs k))) ≡ true
  held_here k is at here =
      sym (ap is_some (find_here key bs h k is (subst (λ n. n < length bs) (sym is) held_within) at here)) ∙ held

pub place_at-at-requires-clause-within : goal.place_at-at-requires-clause-within
place_at-at-requires-clause-within c = subst (λ n. n < length c.args.blocks.now.items) (sym c.block_place-k.ensures.place)
    (held_within c.args.key.now c.args.blocks.now.items c.requires.kept c.requires.held)

pub set_at-requires-clause-within : goal.set_at-requires-clause-within
set_at-requires-clause-within c = subst (λ n. n < length c.args.blocks.now.items) (sym c.block_place-k.ensures.place)
    (held_within c.args.key.now c.args.blocks.now.items c.requires.kept c.requires.held)

pub set_at-requires-clause-at : goal.set_at-requires-clause-at
set_at-requires-clause-at c = found_within c.args.key.now _ c.place_at-at.result
    (held_here c.args.key.now c.args.blocks.now.items c.requires.kept c.requires.held
    c.block_place-k.result c.block_place-k.ensures.place c.place_at-at.result c.place_at-at.ensures.place)

pub returns-clause-put : goal.returns-clause-put
returns-clause-put c = c.set_at.ensures.rows ∙ put_found c.args.key.now c.args.blocks.now.items c.requires.kept
    c.block_place-k.result c.block_place-k.ensures.place
    (subst (λ n. n < length c.args.blocks.now.items) (sym c.block_place-k.ensures.place)
    (held_within c.args.key.now c.args.blocks.now.items c.requires.kept c.requires.held))
    c.place_at-at.result c.place_at-at.ensures.place c.args.node
    (held_here c.args.key.now c.args.blocks.now.items c.requires.kept c.requires.held
    c.block_place-k.result c.block_place-k.ensures.place c.place_at-at.result c.place_at-at.ensures.place)

pub returns-clause-kept : goal.returns-clause-kept
returns-clause-kept c = put_kept c.args.key.now c.args.node c.args.blocks.now.items _ c.requires.kept c.set_at.ensures.each
    (returns-clause-put c)
