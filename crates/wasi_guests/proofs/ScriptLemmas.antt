-- The guests of a script as they are run.
use Rattle.std.proofs.Common.{ℕ, zero, suc, ◌+◌, ◌≡◌, ◌<◌, ◌≤◌, true, List, [], ◌∷◌, ◌++◌, length, map, drop, get_or, refl, ap, sym, subst, ◌∙◌, arith, Vec, None, Ok, Err, append_assoc}
use Rattle.std.specs.Prelude.{All, zip}
use Rattle.std.specs.List.{list_all}
use Rattle.std.specs.declared.alloc.Global.{Global}
use Rattle.std.proofs.lemmas.List.{length-append, map-append}
use Rattle.std.proofs.lemmas.List.Elements.{All-nil, All-cons, All-head, All-tail}
use Rattle.wasi_form.proofs.Accepted.{guests_accepted, guests_limits_kept}
use Rattle.wasi_form.proofs.Accepted.{limits_kept}
use Rattle.wasi_form.specs.Plan.{GuestsPlan, Plan, planned, planned_piece, planned_preopen}
use Rattle.wasi_form.specs.Verdict.{IsGuestsVerdict}
use Rattle.wasi_form.specs.Within.{is_piece_within, is_shown_within, is_within_limits}
use Rattle.wasi_form.specs.declared.script.ScriptPreopen.{ScriptPreopen}
use Rattle.wasi_form.specs.declared.script.Session.{Session}
use Rattle.wasi_form.specs.declared.script.Shown.{Shown}
use Rattle.wasi_guest.specs.Quotas.{IsQuota}
use Rattle.wasi_host.specs.Tree.{Tree, next_of}
use Rattle.wasi_host.specs.declared.limits.Limits.{Limits}
use Rattle.wasi_report.specs.Guests.{GuestReport, guest_reported, guests_text}
use Rattle.wasi_report.specs.GuestsReadBack.{FitsGuests}
use Rattle.wasi_report.specs.declared.guests.GuestOutcome.{GuestOutcome}
use Rattle.wasi_setup.proofs.Starts.{within_on}
use Rattle.wasi_tree.specs.NodeData.{NodeData, tree_of}
use Rattle.wasi_guests.specs.Alone.{End, Starting, ended, starting}
use Rattle.wasi_guests.specs.AsIfAlone.{AsIfAlone, IsOutcome, MayBegin, preopen_directories}
use Rattle.wasi_guests.specs.GuestScript.{AreApart, AreShownWithin, ComesTo, TellsAsIfAlone, end_told, ends_told, guest_of, insides, most_nodes, nodes_given, shows_of, starting_by, tree_at_start}
use Rattle.wasi_guests.specs.Insides.{IsLowestShared}
use Rattle.wasi_guests.specs.declared.plan.GuestEnd.{GuestEnd}
use Rattle.wasi_guests.specs.declared.plan.GuestsError.{GuestsError}
use Rattle.wasi_guests.specs.declared.plan.GuestsError.TheVariants.{Overlap, Room, Memory}
use Rattle.wasi_guests.specs.declared.plan.GuestsOutcome.{GuestsOutcome}

-- what is made of one item more stands after what was made of those before
pub push_map : {A B : Type 0} (f : A → B) (done : List B) {more whole : List B} {all rest : List A} {x : A} {y : B}
    → done ++ map f all ≡ whole → all ≡ x ∷ rest → more ≡ done ++ y ∷ [] → y ≡ f x → more ++ map f rest ≡ whole
push_map f done {rest = rest} was next pushed is = ap (λ l. l ++ map f rest) pushed
    ∙ rw append_assoc (ap (λ y. done ++ y ∷ map f rest) is ∙ ap (λ l. done ++ map f l) (sym next) ∙ was)

-- each guest of a script is within the limits
pub each_within : {bytes : List ℕ} {p : GuestsPlan} → IsGuestsVerdict bytes (Ok p)
    → All (λ guest. is_within_limits guest ≡ true) p.guests
each_within {p = p} is = (guests_limits_kept p (guests_accepted is).within).each

-- the pieces of a guest lie in its memory
abbrev pub HasPieces : Session → Type 0
HasPieces s = list_all (is_piece_within s.size) (map planned_piece s.pieces.items) ≡ true

-- what is shown of one lies in it
abbrev IsShown : Vec Shown Global × GuestEnd → Type 0
IsShown p = list_all (is_shown_within (length p.1.memory)) p.0.items ≡ true

module _ (nodes : List NodeData) (limits : Limits) where
  -- it begins as its plan says
  start_same : (s : Session) → starting (tree_of nodes limits) (guest_of s) ≡ starting_by (planned nodes limits s)
  unfolding tree_of
  start_same s = refl

  pub starts_same : (ss : List Session)
      → map (starting (tree_of nodes limits)) (map guest_of ss) ≡ map starting_by (map (planned nodes limits) ss)
  starts_same [] = refl
  starts_same (s ∷ ss) = λ i. start_same s i ∷ starts_same ss i

  -- it is given the directories that its plan names
  nodes_same : (preopens : List ScriptPreopen)
      → map (λ preopen. preopen.node) preopens ≡ map (λ preopen. preopen.node) (map planned_preopen preopens)
  nodes_same [] = refl
  nodes_same (p ∷ ps) = ap (λ ns. p.node ∷ ns) (nodes_same ps)

  pub insides_same : (ss : List Session)
      → map preopen_directories (map guest_of ss) ≡ map nodes_given (map (planned nodes limits) ss)
  insides_same [] = refl
  insides_same (s ∷ ss) = λ i. nodes_same s.preopens.items i ∷ insides_same ss i

  abbrev IsWithin : Plan → Type 0
  IsWithin guest = is_within_limits guest ≡ true

  -- it can begin
  pub all_may_begin : (ss : List Session) → All IsWithin (map (planned nodes limits) ss) → All (λ s. IsQuota s.quota) ss
      → All (MayBegin (tree_of nodes limits)) (map guest_of ss)
  all_may_begin [] within quotas = All-nil (MayBegin (tree_of nodes limits))
  all_may_begin (s ∷ ss) within quotas =
      let on = within_on nodes limits s refl (All-head IsWithin (planned nodes limits s) (map (planned nodes limits) ss) within) in
      All-cons (MayBegin (tree_of nodes limits)) (guest_of s) (map guest_of ss)
      (record {
        directories = on.directories;
        table = on.table;
        quota = All-head (λ (s : Session). IsQuota s.quota) s ss quotas;
      })
      (all_may_begin ss (All-tail IsWithin (planned nodes limits s) (map (planned nodes limits) ss) within)
      (All-tail (λ (s : Session). IsQuota s.quota) s ss quotas))

  -- its pieces do
  pub all_pieces : (ss : List Session) → All IsWithin (map (planned nodes limits) ss) → All HasPieces ss
  all_pieces [] within = All-nil HasPieces
  all_pieces (s ∷ ss) within = All-cons HasPieces s ss
      (limits_kept (planned nodes limits s) (All-head IsWithin (planned nodes limits s) (map (planned nodes limits) ss) within)).pieces
      (all_pieces ss (All-tail IsWithin (planned nodes limits s) (map (planned nodes limits) ss) within))

  -- and what is shown of it, as long as it keeps its size
  pub all_shown : (ss : List Session) (ends : List GuestEnd) → All IsWithin (map (planned nodes limits) ss)
      → map (λ end. length end.memory) ends ≡ map (λ s. s.size) ss → AreShownWithin (map (λ s. s.show) ss) ends
  all_shown [] [] within sizes = (refl, All-nil _)
  all_shown [] (e ∷ ends) within sizes = absurd (cc)
  all_shown (s ∷ ss) [] within sizes = absurd (cc)
  all_shown (s ∷ ss) (e ∷ ends) within sizes =
      let size : length e.memory ≡ s.size = (cc) in
      let rest : map (λ (end : GuestEnd). length end.memory) ends ≡ map (λ (s : Session). s.size) ss = (cc) in
      let kept = limits_kept (planned nodes limits s)
      (All-head IsWithin (planned nodes limits s) (map (planned nodes limits) ss) within) in
      let (count, all) =
      all_shown ss ends (All-tail IsWithin (planned nodes limits s) (map (planned nodes limits) ss) within) rest in
      (ap (λ n. suc n) count, All-cons IsShown (s.show, e) (zip (map (λ (s : Session). s.show) ss) ends) (rw size kept.show) all)

-- the first end that is left is told by the first ranges that are left
pub record ToldFirst (shows : List (Vec Shown Global)) (told : ℕ) (end : GuestEnd) (ends : List GuestEnd) : Type 0 where
  pub show : Vec Shown Global
  pub there : drop told shows ≡ show ∷ drop (suc told) shows
  pub at : (d : Vec Shown Global) → get_or shows told d ≡ show
  pub has : told < length shows
  pub shown : list_all (is_shown_within (length end.memory)) show.items ≡ true
  pub rest : AreShownWithin (drop (suc told) shows) ends

pub told_first : (shows : List (Vec Shown Global)) (told : ℕ) (end : GuestEnd) (ends : List GuestEnd)
    → AreShownWithin (drop told shows) (end ∷ ends) → ToldFirst shows told end ends
told_first [] zero end ends (count, all) = absurd (cc)
told_first [] (suc told) end ends (count, all) = absurd (cc)
told_first (show ∷ shows) zero end ends (count, all) = record {
  show = show;
  there = refl;
  at = λ d. refl;
  has = omega arith;
  shown = All-head IsShown (show, end) (zip shows ends) all;
  rest = (omega (arith, count), All-tail IsShown (show, end) (zip shows ends) all);
}
told_first (show ∷ shows) (suc told) end ends within =
    let first = told_first shows told end ends within in
    record {
      show = first.show;
      there = first.there;
      at = first.at;
      has = omega (arith, first.has);
      shown = first.shown;
      rest = first.rest;
    }

abbrev pub shown_items : Vec Shown Global → List Shown
shown_items show = show.items

count_more : {A : Type 0} (done : List A) (one : A) {more : List A} → more ≡ done ++ one ∷ [] → length more ≡ suc (length done)
count_more done one pushed = ap length pushed ∙ omega (arith, length-append done (one ∷ []))

-- what is told of it stands after what was told before
module _ (done : List GuestOutcome) (one : GuestOutcome) {shows : List (Vec Shown Global)} {more : List GuestOutcome}
    {end : GuestEnd} {all rest : List GuestEnd} (first : ToldFirst shows (length done) end rest) (next : all ≡ end ∷ rest)
    (pushed : more ≡ done ++ one ∷ []) where
  pub told_more : {whole : List GuestReport} → guest_reported one ≡ end_told first.show.items (ended end)
      → map guest_reported done ++ ends_told (map shown_items (drop (length done) shows)) (map ended all) ≡ whole
      → map guest_reported more ++ ends_told (map shown_items (drop (length more) shows)) (map ended rest) ≡ whole
  told_more is was =
      let left : ends_told (map shown_items (drop (length done) shows)) (map ended all)
      ≡ end_told first.show.items (ended end) ∷ ends_told (map shown_items (drop (suc (length done)) shows)) (map ended rest)
      = rw (next, first.there) refl in
      ap (λ n. map guest_reported more ++ ends_told (map shown_items (drop n shows)) (map ended rest)) (count_more done one pushed)
      ∙ ap (λ l. l ++ ends_told (map shown_items (drop (suc (length done)) shows)) (map ended rest))
      (ap (map guest_reported) pushed ∙ map-append guest_reported done (one ∷ []))
      ∙ rw append_assoc (ap (λ r. map guest_reported done ++ r ∷ ends_told (map shown_items (drop (suc (length done)) shows)) (map ended rest)) is
      ∙ ap (λ l. map guest_reported done ++ l) (sym left) ∙ was)

  pub within_more : AreShownWithin (drop (length more) shows) rest
  within_more = subst (λ n. AreShownWithin (drop n shows) rest) (sym (count_more done one pushed)) first.rest

-- what is to be shown of each guest is as its plan says
pub shows_same : (nodes : List NodeData) (limits : Limits) (ss : List Session)
    → map shown_items (map (λ s. s.show) ss) ≡ map (λ guest. guest.show) (map (planned nodes limits) ss)
shows_same nodes limits [] = refl
shows_same nodes limits (s ∷ ss) = ap (λ shows. s.show.items ∷ shows) (shows_same nodes limits ss)

-- over the tree of a plan, and with its directories
module _ (plan : GuestsPlan) {t : Tree} {given : List (List ℕ)} (tree_is : t ≡ tree_at_start plan)
    (given_is : given ≡ insides plan) where
  -- why guests don't run is what comes of their plan
  pub comes_to_none : (error : GuestsError) (Is : GuestsOutcome → Type 0)
      → IsOutcome t given (length plan.schedule) (Err error) Is → ComesTo plan (Err error)
  unfolding tree_of
  comes_to_none (Overlap n) Is is = rw (tree_is, given_is) at is
  comes_to_none Room Is is = (rw (tree_is, given_is) at is.0, rw tree_is at is.1)
  comes_to_none Memory Is is = tt

  -- and so is the text of what they come to
  pub comes_to_text : {starts : List Starting} {ends : List End} {nodes : List NodeData} {told : List GuestReport} {text : List ℕ}
      → starts ≡ map starting_by plan.guests → told ≡ ends_told (shows_of plan) ends
      → IsLowestShared t given None → next_of t + length plan.schedule ≤ t.limits.nodes
      → AsIfAlone t starts plan.schedule ends nodes → FitsGuests (record { guests = told; tree = nodes })
      → text ≡ guests_text (record { guests = told; tree = nodes })
      → AreApart plan × (most_nodes plan ≤ plan.limits.nodes) × TellsAsIfAlone plan text
  unfolding tree_of
  comes_to_text {ends = ends} {nodes = nodes} starts_are told_is apart room alone fits is = (
    rw (tree_is, given_is) at apart,
    rw tree_is at room,
    record {
      ends = ends;
      nodes = nodes;
      alone = rw (tree_is, starts_are) at alone;
      fits = rw told_is at fits;
      text_is = rw told_is at is;
    },
  )
