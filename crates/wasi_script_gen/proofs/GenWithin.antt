-- The script of `gen n` is within the limits of scripts.
use Rattle.std.proofs.Common.{◌≡◌, ℕ, zero, suc, ◌+◌, ◌*◌, ◌<◌, ◌≤◌, Bool, true, List, [], ◌∷◌, ◌++◌, length, refl, sym, ap, subst, ◌∙◌, arith, append-nil, length-append}
use Rattle.std.specs.Prelude.{nat_le, codes, decimal}
use Rattle.std.specs.List.{flat_map, list_all, range_with_len}
use Rattle.std.proofs.lemmas.List.Concat.{flat_map-append}
use Rattle.std.proofs.lemmas.List.Folds.{list_all-append}
use Rattle.wasi_form.specs.Plan.{Plan}
use Rattle.wasi_form.specs.Within.{is_piece_within, is_within_limits}
use Rattle.wasi_script_gen.specs.GenNodes.{gen_nodes}
use Rattle.wasi_script_gen.specs.GenScript.{link_path, new_path, pieces_at, gen_pieces, gen_script}
use Rattle.wasi_script_gen.proofs.Texts.{short_digits}

-- ---- what is made of numbers piece by piece

range_more : (a n : ℕ) → range_with_len a (suc n) ≡ range_with_len a n ++ (a + n) ∷ []
range_more a zero = let place : a ≡ a + zero = omega arith in ap (λ m. m ∷ []) place
range_more a (suc n) =
    let place : a + 1 + n ≡ a + suc n = omega arith in
    ap (λ l. a ∷ l) (range_more (a + 1) n ∙ ap (λ m. range_with_len (a + 1) n ++ m ∷ []) place)

pub pieces_more : {X : Type 0} (f : ℕ → List X) (i : ℕ)
    → flat_map f (range_with_len 0 (i + 1)) ≡ flat_map f (range_with_len 0 i) ++ f i
pieces_more f i =
    let next : i + 1 ≡ suc i = omega arith in
    let place : 0 + i ≡ i = omega arith in
    ap (λ m. flat_map f (range_with_len 0 m)) next ∙ ap (flat_map f) (range_more 0 i)
    ∙ flat_map-append f (range_with_len 0 i) ((0 + i) ∷ [])
    ∙ ap (λ l. flat_map f (range_with_len 0 i) ++ l) (append-nil (f (0 + i)) ∙ ap f place)

all_pieces : {X : Type 0} (p : X → Bool) (f : ℕ → List X) (a m : ℕ)
    → ((i : ℕ) → a ≤ i → i < a + m → list_all p (f i) ≡ true) → list_all p (flat_map f (range_with_len a m)) ≡ true
all_pieces p f a zero holds = refl
all_pieces p f a (suc m) holds =
    let rest = all_pieces p f (a + 1) m (λ i low high. holds i (omega arith) (omega arith)) in
    list_all-append p (f a) (flat_map f (range_with_len (a + 1) m)) ∙ rw (holds a (omega arith) (omega arith), rest) refl

-- ---- the pieces are within the memory

pub link_path_long : (i : ℕ) → i < 10000 → length (link_path i) ≤ 8
link_path_long i few = omega (arith, short_digits i few, length-append (decimal i) (codes "/up"))

pub new_path_long : (i : ℕ) → i < 10000 → length (new_path i) ≤ 5
new_path_long i few = omega (arith, short_digits i few)

turn_within : (n i : ℕ) → n < 10000 → i < n → list_all (is_piece_within (1024 + 32 * n)) (pieces_at i) ≡ true
turn_within n i few below =
    let link_long = link_path_long i (omega arith) in
    let new_long = new_path_long i (omega arith) in
    let link : nat_le (1024 + 32 * i + length (link_path i)) (1024 + 32 * n) ≡ true = grind (arith) in
    let new : nat_le (1040 + 32 * i + length (new_path i)) (1024 + 32 * n) ≡ true = grind (arith) in
    rw (link, new) refl

pieces_within : (n : ℕ) → n < 10000 → list_all (is_piece_within (1024 + 32 * n)) (gen_pieces n) ≡ true
unfolding gen_pieces
pieces_within n few =
    let first : nat_le 8 (1024 + 32 * n) ≡ true = grind (arith) in
    rw (first, all_pieces (is_piece_within (1024 + 32 * n)) pieces_at 0 n (λ i low high. turn_within n i few (omega arith))) refl

gen_within : (n : ℕ) → n < 10000 → is_within_limits (gen_script n) ≡ true
unfolding is_within_limits gen_nodes
gen_within n few =
    let size : nat_le (1024 + 32 * n) 16777216 ≡ true = grind (arith) in
    rw (size, pieces_within n few) refl

-- a script that is that of `gen n`
pub made_within : (n : ℕ) → n < 10000 → (p : Plan) → p ≡ gen_script n → is_within_limits p ≡ true
made_within n few p is = subst (λ q. is_within_limits q ≡ true) (sym is) (gen_within n few)
