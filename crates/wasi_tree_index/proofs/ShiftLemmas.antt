-- A row that a block passes on to the next one, or to the one before.
use Rattle.std.proofs.Common.{◌≡◌, ℕ, suc, ◌+◌, ◌<◌, ◌≤◌, List, [], ◌∷◌, ◌++◌, map, length, get_or, set, refl, sym, ap, ◌∙◌, subst, arith, length-set, add-one}
use Rattle.std.specs.Prelude.{true, false, Option, None, Some, cond, MatchOption}
use Rattle.std.specs.Vec.{vec_len, vec_capacity}
use Rattle.std.proofs.lemmas.Bool.Decides.{nat_tests}
use Rattle.std.specs.List.{insert, remove}
use Rattle.std.proofs.lemmas.List.{length-map, map-append}
use Rattle.std.proofs.lemmas.List.Edits.{insert_end, length-remove}
use Rattle.std.specs.declared.vec.Vec.{Vec}
use Rattle.wasi_tree_index.specs.declared.key.DirEntryKey.{DirEntryKey}
use Rattle.wasi_tree_index.specs.Fronts.{list_at, with_list}
use Rattle.wasi_tree_index.specs.Blocks.{block_entries, with_row, has_block, most_rows, HasSpace}
use Rattle.wasi_tree_index.specs.DirEntryKeys.{row_entry}
use Rattle.wasi_tree_index.proofs.ListLemmas.{list_at-set, list_at-set_other, passed_on, passed_back}
use Rattle.wasi_tree_index.proofs.BlockLemmas.{map_insert, at_block, at_len}

-- a block that stays has the room that it had
pub space_stays : {Y : Type 0} (bs : List (Vec DirEntryKey Y)) (k : ℕ) (c : Vec DirEntryKey Y) (free : ℕ) → (k ≡ free → ⊥)
    → HasSpace bs free → HasSpace (set bs k c) free
space_stays bs k c free apart h = record {
  within = omega (arith, h.within, length-set bs k c);
  space = subst (λ es. length es < most_rows) (sym (list_at-set_other block_entries bs k free c apart)) h.space;
}

module _ {Y : Type 0} (bs : List (Vec DirEntryKey Y)) (k : ℕ) (b : Vec DirEntryKey Y) (lt : k < length bs)
    (is : b ≡ get_or bs k b) where
  pub space_here : length b.items < most_rows → HasSpace bs k
  space_here space = record {
    within = lt;
    space = omega (arith, at_len bs k b lt is);
  }

  -- a block from which a row was taken has room for one
  pub space_left : (c : Vec DirEntryKey Y) (at : ℕ) → at < length b.items → length b.items ≤ most_rows
      → c.items ≡ remove b.items at → HasSpace (set bs k c) k
  space_left c at within most e = record {
    within = omega (arith, length-set bs k c);
    space = rw (list_at-set block_entries bs k c lt)
        (omega (arith, length-map c.items row_entry, ap length e, length-remove b.items at within));
  }

  entries_in : (at : ℕ) (row : DirEntryKey) → map row_entry (insert b.items at row)
      ≡ insert (list_at block_entries bs k) at (row_entry row)
  entries_in at row = map_insert row_entry b.items at row
      ∙ ap (λ es. insert es at (row_entry row)) (sym (at_block bs k b lt is))

  pub moved_on : (c : Vec DirEntryKey Y) (at : ℕ) (row x : DirEntryKey) → suc k < length bs
      → c.items ++ x ∷ [] ≡ insert b.items at row → with_row (set bs k c) (k + 1) 0 x ≡ with_row bs k at row
  moved_on c at row x next e = rw add-one (passed_on block_entries bs k c (row_entry x) next
      ∙ ap (with_list block_entries bs k)
      (sym (map-append row_entry c.items (x ∷ [])) ∙ ap (map row_entry) e ∙ entries_in at row))

  pub moved_back : (c : Vec DirEntryKey Y) (at : ℕ) (row x : DirEntryKey) (j : ℕ) → k ≡ suc j
      → x ∷ c.items ≡ insert b.items at row
      → (n : ℕ) → n ≡ length (list_at block_entries (set bs k c) j)
      → with_row (set bs k c) j n x ≡ with_row bs k at row
  moved_back c at row x j above e n end =
      ap (λ i. with_row (set bs k c) j i x) end
      ∙ ap (with_list block_entries (set bs k c) j) (insert_end (list_at block_entries (set bs k c) j) (row_entry x))
      ∙ subst (λ n. with_list block_entries (set bs n c) j (list_at block_entries (set bs n c) j ++ row_entry x ∷ [])
      ≡ with_list block_entries bs n (row_entry x ∷ block_entries c)) (sym above)
      (passed_back block_entries bs j c (row_entry x) (omega arith))
      ∙ ap (with_list block_entries bs k) (ap (map row_entry) e ∙ entries_in at row)

module _ {Y Z : Type 0} (blocks : Vec (Vec DirEntryKey Y) Z) (spare : Vec DirEntryKey Y) where
  pub block_given : (free : Option ℕ) → MatchOption free (has_block blocks spare ≡ true) (HasSpace blocks.items)
      → blocks.items ≡ [] → most_rows ≤ vec_capacity spare
  block_given None h none = grind (arith, nat_tests)
  block_given (Some free) h none = absurd (omega (arith, h.within, ap length none))

  pub block_there : vec_len blocks < vec_capacity blocks → most_rows ≤ vec_capacity spare → has_block blocks spare ≡ true
  block_there list block = grind (arith, nat_tests)

  -- a block is named where there is no room for one more
  pub room_given : (k : ℕ) (free : Option ℕ) → free ≡ cond (has_block blocks spare) None (Some k)
      → (has_block blocks spare ≡ false → HasSpace blocks.items k)
      → MatchOption free (has_block blocks spare ≡ true) (HasSpace blocks.items)
  room_given k free is space = rw is (elim (has_block blocks spare) as (λ b. has_block blocks spare ≡ b
      → MatchOption (cond b None (Some k)) (has_block blocks spare ≡ true) (HasSpace blocks.items)) [
        | true ↦ λ e. e
        | false ↦ λ e. space e
      ] refl)
