-- Subscriptions that are judged one after another.
use Rattle.std.proofs.Common.{ℕ, suc, ◌+◌, ◌-◌, ◌*◌, ◌^◌, ◌≡◌, ◌<◌, ◌≤◌, min, List, [], ◌∷◌, ◌++◌, map, refl, ap, sym, ◌∙◌, subst, Ok, Err, arith, append_assoc}
use Rattle.std.proofs.lemmas.List.{map-append}
use Rattle.wasi_host.specs.Steps.{◌>>=◌}
use Rattle.wasi_host.specs.declared.open_handle.OpenHandle.{OpenHandle}
use Rattle.wasi_p1_types.specs.Guest.{GuestSlot}
use Rattle.wasi_p1_types.specs.Polling.{awaited_by, waited_by, waited_at, all_waited, comes_at, files_in, earliest, files_named, judged_in, judged_of, judged_with}
use Rattle.wasi_p1_types.specs.CallResult.{CallResult, give}
use Rattle.wasi_p1_types.specs.GuestEnvModel.{GuestEnvModel}
use Rattle.wasi_p1_types.specs.declared.error.P1Error.{P1Error}
use Rattle.wasi_p1_types.specs.declared.awaited.Awaited.{Awaited}
use Rattle.wasi_p1_types.specs.declared.awaited.Awaited.TheVariants as awaiteds
use Rattle.wasi_p1_types.specs.declared.awaited.Judged.{Judged}
use Rattle.wasi_p1_types.specs.declared.awaited.Waited.{Waited}

-- ---- one subscription

-- what a handle stands for is the same in these
judged_by : (held : ℕ → OpenHandle) (what : Awaited)
    → (files_in (awaited_by held what) ≡ files_in what) × (comes_at (awaited_by held what) ≡ comes_at what)
judged_by held (awaiteds.FileToRead file position) = (refl, refl)
judged_by held (awaiteds.Clock end) = (refl, refl)
judged_by held awaiteds.Input = (refl, refl)
judged_by held awaiteds.Output = (refl, refl)
judged_by held awaiteds.FileToWrite = (refl, refl)

-- ---- those that are left

-- of so many from a start on, those from one on give the whole
pub record Left {A : Type 0} (stock : GuestEnvModel) (slots : List GuestSlot) (memory : List ℕ) (start count i : ℕ) (onto : List Waited → A)
    (whole : CallResult A) : Type 0 where
  pub gives : (all_waited stock slots memory (start + 48 * i) (count - i) >>= (λ ws. give (onto ws))) ≡ whole

onto_same : {A : Type 0} (f g : List Waited → A) (m : CallResult (List Waited)) → ((ws : List Waited) → f ws ≡ g ws)
    → (m >>= (λ ws. give (f ws))) ≡ (m >>= (λ ws. give (g ws)))
onto_same f g (Ok ws) same = ap give (same ws)
onto_same f g (Err e) same = refl

-- the first of them is judged
first_judged : {A : Type 0} {w : Waited} (onto : List Waited → A) (stock : GuestEnvModel) (slots : List GuestSlot) (memory : List ℕ) (at n : ℕ)
    → Ok w ≡ waited_at stock slots memory at → (all_waited stock slots memory at (suc n) >>= (λ ws. give (onto ws)))
    ≡ (all_waited stock slots memory (at + 48) n >>= (λ ws. give (onto (w ∷ ws))))
unfolding all_waited
first_judged {w = w} onto stock slots memory at n is =
    rw (← is) (by (all_waited stock slots memory (at + 48) n))
  where
    by : (m : CallResult (List Waited)) → ((m >>= (λ others. give (w ∷ others))) >>= (λ ws. give (onto ws))) ≡ (m >>= (λ ws. give (onto (w ∷ ws))))
    by (Ok ws) = refl
    by (Err e) = refl

module _ {A : Type 0} {onto : List Waited → A} {whole : CallResult A} {stock : GuestEnvModel} {slots : List GuestSlot} {memory : List ℕ}
    {start count i : ℕ} where
  pub one_less : {w : Waited} → i < count → Ok w ≡ waited_at stock slots memory (start + 48 * i)
      → Left stock slots memory start count i onto whole → Left stock slots memory start count (i + 1) (λ ws. onto (w ∷ ws)) whole
  one_less {w} within is left =
      let n : count - i ≡ suc (count - (i + 1)) = omega arith in
      let at : start + 48 * i + 48 ≡ start + 48 * (i + 1) = omega arith in
      let gives = subst (λ m. (all_waited stock slots memory (start + 48 * i) m >>= (λ ws. give (onto ws))) ≡ whole) n left.gives in
      record {
        gives = subst (λ a. (all_waited stock slots memory a (count - (i + 1)) >>= (λ ws. give (onto (w ∷ ws)))) ≡ whole) at
            (sym (first_judged onto stock slots memory (start + 48 * i) (count - (i + 1)) is) ∙ gives);
      }

  -- or refused
  pub first_refused : {e : P1Error} → i < count → Err e ≡ waited_at stock slots memory (start + 48 * i)
      → Left stock slots memory start count i onto whole → Err e ≡ whole
  unfolding all_waited
  first_refused {e} within is left =
      let n : count - i ≡ suc (count - (i + 1)) = omega arith in
      let gives = subst (λ m. (all_waited stock slots memory (start + 48 * i) m >>= (λ ws. give (onto ws))) ≡ whole) n left.gives in
      rw (← is) at gives

  -- none is left
  pub none_left : count ≤ i → Left stock slots memory start count i onto whole → Ok (onto []) ≡ whole
  unfolding all_waited
  none_left behind left =
      let n : count - i ≡ 0 = omega arith in
      subst (λ m. (all_waited stock slots memory (start + 48 * i) m >>= (λ ws. give (onto ws))) ≡ whole) n left.gives

-- all are left
pub from_start : {A : Type 0} (onto : List Waited → A) (whole : CallResult A) (stock : GuestEnvModel) (slots : List GuestSlot) (memory : List ℕ)
    (start count : ℕ) → (all_waited stock slots memory start count >>= (λ ws. give (onto ws))) ≡ whole
    → Left stock slots memory start count 0 onto whole
from_start onto whole stock slots memory start count is =
    let at : start ≡ start + 48 * 0 = omega arith in
    let n : count ≡ count - 0 = omega arith in
    record {
      gives = subst (λ a. (all_waited stock slots memory a (count - 0) >>= (λ ws. give (onto ws))) ≡ whole) at
          (subst (λ m. (all_waited stock slots memory start m >>= (λ ws. give (onto ws))) ≡ whole) n is);
    }

-- ---- what they come to

judged_same : {j k : Judged} → j.files ≡ k.files → j.earliest ≡ k.earliest → j ≡ k
judged_same files earliest = λ i. record { files = files i; earliest = earliest i }

early : (ws : List Waited) → earliest ws ≤ 2 ^ 64 - 1
unfolding earliest
early [] = omega arith
early (w ∷ ws) = let rest = early ws in omega (arith, rest)

pub none_judged : (stock : GuestEnvModel) (slots : List GuestSlot) (memory : List ℕ) (start count : ℕ)
    → Left stock slots memory start count 0 (judged_with (record { files = 0; earliest = 2 ^ 64 - 1 }))
    (judged_in stock slots memory start count)
none_judged stock slots memory start count =
    from_start (judged_with (record { files = 0; earliest = 2 ^ 64 - 1 })) _ stock slots memory start count
    (onto_same (judged_with (record { files = 0; earliest = 2 ^ 64 - 1 })) judged_of (all_waited stock slots memory start count)
    (λ ws. judged_same {j = judged_with (record { files = 0; earliest = 2 ^ 64 - 1 }) ws} {k = judged_of ws}
    (omega arith) (omega (arith, early ws))))

-- with one more
pub one_judged : {whole : CallResult Judged} {stock : GuestEnvModel} {slots : List GuestSlot} {memory : List ℕ} {start count i : ℕ}
    (held : ℕ → OpenHandle) (before now : Judged) (w : Waited) → i < count
    → Ok (waited_by held w) ≡ waited_at stock slots memory (start + 48 * i)
    → now.files ≡ before.files + files_in w.what → now.earliest ≡ min before.earliest (comes_at w.what)
    → Left stock slots memory start count i (judged_with before) whole
    → Left stock slots memory start count (i + 1) (judged_with now) whole
unfolding earliest files_named
one_judged {stock = stock} {slots} {memory} {start} {count} {i} held before now w within is files first left =
    let less = one_less {onto = judged_with before} within is left in
    let (same_files, same_time) = judged_by held w.what in
    record {
      gives = onto_same (judged_with now) (λ ws. judged_with before (waited_by held w ∷ ws))
          (all_waited stock slots memory (start + 48 * (i + 1)) (count - (i + 1)))
          (λ ws. judged_same {j = judged_with now ws} {k = judged_with before (waited_by held w ∷ ws)}
          (omega (arith, files, same_files)) (omega (arith, first, same_time)))
          ∙ less.gives;
    }

pub all_judged : {whole : CallResult Judged} {stock : GuestEnvModel} {slots : List GuestSlot} {memory : List ℕ} {start count i : ℕ} (before : Judged)
    → count ≤ i → before.earliest ≤ 2 ^ 64 - 1 → Left stock slots memory start count i (judged_with before) whole
    → Ok before ≡ whole
unfolding earliest files_named
all_judged before behind early left =
    ap Ok (judged_same {j = before} {k = judged_with before []} (omega arith) (omega (arith, early)))
    ∙ none_left {onto = judged_with before} behind left

-- a refusal of one is that of all, and an answer is theirs
pub judged_err : {e : P1Error} (m : CallResult (List Waited)) → Err e ≡ (m >>= (λ ws. give (judged_of ws))) → Err e ≡ m
judged_err (Ok ws) is = absurd (cc)
judged_err {e} (Err f) is = let same : e ≡ f = (cc) in ap Err same

pub judged_ok : {j : Judged} (m : CallResult (List Waited)) → Ok j ≡ (m >>= (λ ws. give (judged_of ws)))
    → (ws : List Waited) × (Ok ws ≡ m) × (j ≡ judged_of ws)
judged_ok (Ok ws) is = (ws, refl, (cc))
judged_ok (Err f) is = absurd (cc)

-- ---- all of them

nothing_behind : (ws : List Waited) → ws ++ [] ≡ ws
nothing_behind [] = refl
nothing_behind (w ∷ ws) = ap (λ rest. w ∷ rest) (nothing_behind ws)

-- after those that were kept
abbrev pub kept_with : (ℕ → OpenHandle) → List Waited → List Waited → List Waited
kept_with held all ws = map (waited_by held) all ++ ws

pub none_kept : (held : ℕ → OpenHandle) (all : List Waited) (stock : GuestEnvModel) (slots : List GuestSlot) (memory : List ℕ) (start count : ℕ)
    → all ≡ [] → Left stock slots memory start count 0 (kept_with held all) (all_waited stock slots memory start count)
none_kept held all stock slots memory start count is =
    from_start (kept_with held all) _ stock slots memory start count (rw is (by (all_waited stock slots memory start count)))
  where
    by : (m : CallResult (List Waited)) → (m >>= (λ ws. give ws)) ≡ m
    by (Ok ws) = refl
    by (Err e) = refl

pub one_kept : {whole : CallResult (List Waited)} {stock : GuestEnvModel} {slots : List GuestSlot} {memory : List ℕ} {start count i : ℕ}
    (held : ℕ → OpenHandle) (all : List Waited) (w : Waited) → i < count
    → Ok (waited_by held w) ≡ waited_at stock slots memory (start + 48 * i)
    → Left stock slots memory start count i (kept_with held all) whole
    → Left stock slots memory start count (i + 1) (kept_with held (all ++ w ∷ [])) whole
one_kept {stock = stock} {slots} {memory} {start} {count} {i} held all w within is left =
    let less = one_less {onto = kept_with held all} within is left in
    record {
      gives = onto_same (kept_with held (all ++ w ∷ [])) (λ ws. kept_with held all (waited_by held w ∷ ws))
          (all_waited stock slots memory (start + 48 * (i + 1)) (count - (i + 1)))
          (λ ws. ap (λ (front : List Waited). front ++ ws) (map-append (waited_by held) all (w ∷ []))
          ∙ append_assoc (map (waited_by held) all) (waited_by held w ∷ []) ws)
          ∙ less.gives;
    }

pub all_kept : {whole : CallResult (List Waited)} {stock : GuestEnvModel} {slots : List GuestSlot} {memory : List ℕ} {start count i : ℕ}
    (held : ℕ → OpenHandle) (all : List Waited) → count ≤ i → Left stock slots memory start count i (kept_with held all) whole
    → whole ≡ Ok (map (waited_by held) all)
all_kept held all behind left =
    sym (none_left {onto = kept_with held all} behind left) ∙ ap Ok (nothing_behind (map (waited_by held) all))
