-- The nodes of an overlay once a seat has changed.
use Rattle.std.proofs.Common.{◌≡◌, ◌<◌, ◌≤◌, ◌+◌, ◌-◌, ◌^◌, ◌==◌, ℕ, true, ◌&&◌, List, [], length, Some, None, is_some, Result, Ok, Err, OnOk, OnErr, inl, inr, refl, sym, ap, ◌∙◌, subst, arith, slice_index_or, slice_set}
use Rattle.std.proofs.lemmas.Bool.{cases_eq}
use Rattle.std.proofs.lemmas.Bool.Decides.{nat_tests}
use Rattle.std.specs.FinMap as maps
use Rattle.std.specs.FinSet.{contains, insert}
use Rattle.std.specs.Global.{Vec}
use Rattle.std.specs.Prelude.{Option, option_map, nat_lt, replicate, unwrap_or}
use Rattle.wasi_host.specs.Step.{with_content, name_lost, one_name_more, other_bytes, with_size}
use Rattle.wasi_host.specs.Tree.{Node, Content, File, Directory, Link, stray, links_of, bytes_of}
use Rattle.wasi_overlay.specs.Grown.{GrownNodes}
use Rattle.wasi_overlay.specs.OverNodes.{OverState, over_state, is_worked, is_touched, has_room, AreRounds}
use Rattle.wasi_overlay.specs.OverSeats.{SeatMap, kept_at, kept_in, kept_of, with_kept, seated, over_from, held_in, numbers_with, passes, seat_changed, node_over, content_over, bytes_over, in_round, worked_on, kept_changed, name_less, links_put, own_put, own_of, own_at}
use Rattle.wasi_overlay.specs.declared.kept.Kept.{Kept}
use Rattle.wasi_overlay.specs.declared.seat.Seat.{Seat}
use Rattle.wasi_overlay.proofs.OverLemmas.{over_at, over_one, over_same, seat_here, seat_other, some_changed, held_changed, inserted_here, insert_again, numbers_stay, numbers_more, contains-held_in, contains-numbers_with}
use Rattle.wasi_overlay.proofs.SeatLemmas.{over-kept_of}
use Rattle.wasi_overlay.proofs.StateLemmas.{within_below, over_kept_at}

-- ---- what a change of what is kept is to its node

over_content : (node : Node) (kept new : Kept) (change : Content → Content) → new.atime ≡ kept.atime → new.mtime ≡ kept.mtime
    → content_over new node.content ≡ change (content_over kept node.content)
    → node_over new node ≡ with_content (node_over kept node) change
over_content node kept new change atime mtime is = λ i.
    let n : Node = record node { content = is i; atime = atime i; mtime = mtime i } in n

pub over-name_less : (kept : Kept) (node : Node) → node_over (name_less kept) node ≡ with_content (node_over kept node) name_lost
over-name_less kept node = over_content node kept (name_less kept) name_lost refl refl (by node.content)
  where
    by : (c : Content) → content_over (name_less kept) c ≡ name_lost (content_over kept c)
    by (File bytes links) = refl
    by (Directory names gone) = refl
    by (Link text links) = refl

pub over-links_put : (kept : Kept) (node : Node) (links : ℕ) → links ≡ links_of (node_over kept node).content + 1
    → node_over (links_put links kept) node ≡ with_content (node_over kept node) one_name_more
over-links_put kept node links = λ is. over_content node kept (links_put links kept) one_name_more refl refl (by node.content is)
  where
    by : (c : Content) → links ≡ links_of (content_over kept c) + 1
        → content_over (links_put links kept) c ≡ one_name_more (content_over kept c)
    by (File bytes old) is = ap (File (bytes_over kept.bytes bytes)) is
    by (Directory names gone) is = refl
    by (Link text old) is = ap (Link text) is

pub over-own_put : (kept : Kept) (node : Node) (change : List ℕ → List ℕ) (own : Option (Vec ℕ))
    → bytes_over own (bytes_of node.content) ≡ change (bytes_over kept.bytes (bytes_of node.content))
    → node_over (own_put own kept) node ≡ with_content (node_over kept node) (other_bytes change)
over-own_put kept node change own = λ is. over_content node kept (own_put own kept) (other_bytes change) refl refl (by node.content is)
  where
    by : (c : Content) → bytes_over own (bytes_of c) ≡ change (bytes_over kept.bytes (bytes_of c))
        → content_over (own_put own kept) c ≡ other_bytes change (content_over kept c)
    by (File bytes links) is = ap (λ all. File all kept.links) is
    by (Directory names gone) is = refl
    by (Link text links) is = refl

-- the same bytes in another room
pub over-own_same : (kept : Kept) (node : Node) (own : Option (Vec ℕ))
    → bytes_over own (bytes_of node.content) ≡ bytes_over kept.bytes (bytes_of node.content)
    → node_over (own_put own kept) node ≡ node_over kept node
over-own_same kept node own = λ is.
    ap (λ (c : Content). let n : Node = record (node_over kept node) { content = c } in n) (by node.content is)
  where
    by : (c : Content) → bytes_over own (bytes_of c) ≡ bytes_over kept.bytes (bytes_of c)
        → content_over (own_put own kept) c ≡ content_over kept c
    by (File bytes links) is = ap (λ all. File all kept.links) is
    by (Directory names gone) is = refl
    by (Link text links) is = refl

-- what is made of the bytes that a file has is what a step makes of them
pub bytes_made : (node : Node) (change : List ℕ → List ℕ) (bytes : List ℕ) → bytes ≡ change (bytes_of node.content)
    → with_content node (other_bytes (λ _. bytes)) ≡ with_content node (other_bytes change)
bytes_made node change bytes = λ is.
    ap (λ (c : Content). let n : Node = record node { content = c } in n) (by node.content is)
  where
    by : (c : Content) → bytes ≡ change (bytes_of c) → other_bytes (λ _. bytes) c ≡ other_bytes change c
    by (File old links) is = ap (λ all. File all links) is
    by (Directory names gone) is = refl
    by (Link text links) is = refl

-- no bytes are left of a size of none
pub with_size_none : (bytes : List ℕ) → [] ≡ with_size 0 bytes
unfolding with_size
with_size_none bytes = let none : 0 ≡ 0 - length bytes = omega arith in ap (λ gap. replicate gap 0) none

-- ---- what a change of a seat is to its node

-- a seat that is touched keeps what it kept
seated_touched : (round : ℕ) (node : Node) (seat : Option Seat) → seated (option_map (in_round round) seat) node ≡ seated seat node
seated_touched round node None = refl
seated_touched round node (Some seat) = refl

-- what is kept of a node that is worked on begins with what it is
seated_worked : (node : Node) (seat : Option Seat) → seated (option_map (worked_on node) seat) node ≡ seated seat node
seated_worked node None = refl
seated_worked node (Some seat) = by seat.kept
  where
    by : (kept : Option Kept) → node_over (unwrap_or kept (kept_of node)) node ≡ with_kept kept node
    by None = over-kept_of node
    by (Some kept) = refl

-- where something is kept, its change is that of the node
seated_changed : (change : Kept → Kept) (g : Node → Node) (node : Node) (seat : Option Seat) → is_some (kept_in seat) ≡ true
    → ((kept : Kept) → kept_in seat ≡ Some kept → node_over (change kept) node ≡ g (node_over kept node))
    → seated (option_map (kept_changed change) seat) node ≡ g (seated seat node)
seated_changed change g node None keeps does = absurd (cc)
seated_changed change g node (Some seat) keeps does = by seat.kept keeps does
  where
    by : (kept : Option Kept) → is_some kept ≡ true
        → ((k : Kept) → kept ≡ Some k → node_over (change k) node ≡ g (node_over k node))
        → with_kept (option_map change kept) node ≡ g (with_kept kept node)
    by None keeps does = absurd (cc)
    by (Some kept) keeps does = does kept refl

-- ---- the state then

pub itself : (n : ℕ) → (n == n) ≡ true
itself n = grind (arith, nat_tests)

some_after : (seats : SeatMap) (n q : ℕ) (change : Seat → Seat)
    → is_some (maps.get (seat_changed seats n change) q) ≡ is_some (maps.get seats q)
some_after seats n q change =
    sym (contains-held_in (seat_changed seats n change) q)
    ∙ ap (λ s. contains s q) (held_changed seats n change) ∙ contains-held_in seats q

-- the node of a number is another one
abbrev pub with_node : OverState → ℕ → (Node → Node) → OverState
with_node t n g = record t { nodes = slice_set t.nodes n (g (slice_index_or t.nodes n stray)) }

abbrev pub with_worked : OverState → ℕ → OverState
with_worked t n = record t { worked = insert t.worked n }

abbrev pub with_touched : OverState → ℕ → OverState
with_touched t n = record t { touched = insert t.touched n }

passes_worked : (seat : Option Seat) → passes is_worked seat ≡ is_some (kept_in seat)
passes_worked None = refl
passes_worked (Some seat) = refl

-- the numbers that were worked on are those of which something is kept
contains-worked : (seats : SeatMap) (n : ℕ) → contains (numbers_with is_worked seats) n ≡ is_some (kept_at seats n)
contains-worked seats n = contains-numbers_with is_worked seats n ∙ passes_worked (maps.get seats n)

-- what has bytes of its own was worked on
own_kept : (kept : Option Kept) → is_some (own_of kept) ≡ true → is_some kept ≡ true
own_kept None own = own
own_kept (Some kept) own = refl

module _ (below : GrownNodes) (seats : SeatMap) (round : ℕ) {t : OverState} (n : ℕ) (is : over_state below seats round ≡ t) where
  -- of what was worked on something is kept
  pub keeps : contains t.worked n ≡ true → is_some (kept_at seats n) ≡ true
  keeps works = sym (contains-worked seats n) ∙ ap (λ (u : OverState). contains u.worked n) is ∙ works

  -- what has bytes of its own is among what was worked on
  own_worked : is_some (own_at seats n) ≡ true → contains t.worked n ≡ true
  unfolding own_at
  own_worked own =
      ap (λ (u : OverState). contains u.worked n) (sym is) ∙ contains-worked seats n ∙ own_kept (kept_at seats n) own

  -- a number that is held has a seat
  held_now : contains t.held n ≡ true → contains (held_in seats) n ≡ true
  held_now held = ap (λ (u : OverState). contains u.held n) is ∙ held

module _ (below : GrownNodes) (seats : SeatMap) (round : ℕ) {t : OverState} (n : ℕ) (is : over_state below seats round ≡ t)
    (within : n < length t.nodes) (change : Seat → Seat) where
  abbrev new : SeatMap
  new = seat_changed seats n change

  abbrev node : Node
  node = slice_index_or below.nodes n stray

  -- the nodes
  nodes_after : (g : Node → Node) → seated (option_map change (maps.get seats n)) node ≡ g (seated (maps.get seats n) node)
      → over_from new 0 below.nodes ≡ slice_set t.nodes n (g (slice_index_or t.nodes n stray))
  nodes_after g does =
      let inside = within_below below seats round is within in
      over_one seats new below.nodes n inside (seat_other seats n change)
      ∙ ap (slice_set (over_from seats 0 below.nodes) n)
      (ap (λ seat. seated seat node) (seat_here seats n change) ∙ does ∙ ap g (sym (over_at seats below.nodes n inside)))
      ∙ ap (λ (u : OverState). slice_set u.nodes n (g (slice_index_or u.nodes n stray))) is

  -- the nodes, where they stay
  nodes_stay : seated (option_map change (maps.get seats n)) node ≡ seated (maps.get seats n) node
      → over_from new 0 below.nodes ≡ t.nodes
  nodes_stay does =
      over_same seats new below.nodes (λ q inside. elim (cases_eq q n) [
        | inl here ↦ subst (λ p. seated (maps.get new p) (slice_index_or below.nodes p stray)
            ≡ seated (maps.get seats p) (slice_index_or below.nodes p stray)) (sym here)
            (ap (λ seat. seated seat node) (seat_here seats n change) ∙ does)
        | inr other ↦ ap (λ seat. seated seat (slice_index_or below.nodes q stray)) (seat_other seats n change q other)
      ])
      ∙ ap (λ (u : OverState). u.nodes) is

  held_after : held_in new ≡ t.held
  held_after = held_changed seats n change ∙ ap (λ (u : OverState). u.held) is

  worked_stay : ((seat : Seat) → is_worked (change seat) ≡ is_worked seat) → numbers_with is_worked new ≡ t.worked
  worked_stay same = numbers_stay is_worked seats n change same ∙ ap (λ (u : OverState). u.worked) is

  touched_stay : ((seat : Seat) → (change seat).round ≡ seat.round) → numbers_with (is_touched round) new ≡ t.touched
  touched_stay same =
      numbers_stay (is_touched round) seats n change (λ seat. ap (λ r. r == round) (same seat)) ∙ ap (λ (u : OverState). u.touched) is

  room_after : has_room below new ≡ t.has_room
  room_after =
      ap (λ b. nat_lt 0 below.room && (b && nat_lt (length below.nodes) (2 ^ 64 - 1))) (some_after seats n (length below.nodes) change)
      ∙ ap (λ (u : OverState). u.has_room) is

module _ (below : GrownNodes) (seats : SeatMap) (round : ℕ) {t : OverState} (n : ℕ) (is : over_state below seats round ≡ t)
    (within : n < length t.nodes) where
  -- the node is touched, and stays
  pub state_touched : contains t.held n ≡ true → (next : SeatMap) → next ≡ seat_changed seats n (in_round round)
      → over_state below next round ≡ with_touched t n
  state_touched held next made = ap (λ s. over_state below s round) made ∙ (λ i.
      let u : OverState = record {
        nodes = nodes_stay below seats round n is within (in_round round)
            (seated_touched round (slice_index_or below.nodes n stray) (maps.get seats n)) i;
        held = held_after below seats round n is within (in_round round) i;
        worked = worked_stay below seats round n is within (in_round round) (λ _. refl) i;
        touched = (numbers_more (is_touched round) seats n (in_round round) (λ _. itself round) (held_now below seats round n is held)
            ∙ ap (λ (u : OverState). insert u.touched n) is) i;
        has_room = room_after below seats round n is within (in_round round) i;
      } in u)

  -- the node is worked on, and stays
  pub state_worked : contains t.held n ≡ true → (next : SeatMap)
      → next ≡ seat_changed seats n (worked_on (slice_index_or below.nodes n stray))
      → over_state below next round ≡ with_worked t n
  state_worked held next made =
      let works : Seat → Seat = worked_on (slice_index_or below.nodes n stray) in
      ap (λ s. over_state below s round) made ∙ (λ i.
      let u : OverState = record {
        nodes = nodes_stay below seats round n is within works
            (seated_worked (slice_index_or below.nodes n stray) (maps.get seats n)) i;
        held = held_after below seats round n is within works i;
        worked = (numbers_more is_worked seats n works (λ _. refl) (held_now below seats round n is held)
            ∙ ap (λ (u : OverState). insert u.worked n) is) i;
        touched = touched_stay below seats round n is within works (λ _. refl) i;
        has_room = room_after below seats round n is within works i;
      } in u)

  -- the node is another one, where what is kept of it changes
  pub state_changed : (change : Kept → Kept) (g : Node → Node) → contains t.worked n ≡ true
      → ((kept : Kept) → kept_at seats n ≡ Some kept
      → node_over (change kept) (slice_index_or below.nodes n stray) ≡ g (node_over kept (slice_index_or below.nodes n stray)))
      → (next : SeatMap) → next ≡ seat_changed seats n (kept_changed change)
      → over_state below next round ≡ with_node t n g
  state_changed change g works does next made = ap (λ s. over_state below s round) made ∙ (λ i.
      let u : OverState = record {
        nodes = nodes_after below seats round n is within (kept_changed change) g
            (seated_changed change g (slice_index_or below.nodes n stray) (maps.get seats n) (keeps below seats round n is works) does) i;
        held = held_after below seats round n is within (kept_changed change) i;
        worked = worked_stay below seats round n is within (kept_changed change) (λ seat. some_changed change seat.kept) i;
        touched = touched_stay below seats round n is within (kept_changed change) (λ _. refl) i;
        has_room = room_after below seats round n is within (kept_changed change) i;
      } in u)

  -- nothing changes but how it is kept
  pub state_same : (change : Kept → Kept) → contains t.worked n ≡ true
      → ((kept : Kept) → kept_at seats n ≡ Some kept
      → node_over (change kept) (slice_index_or below.nodes n stray) ≡ node_over kept (slice_index_or below.nodes n stray))
      → (next : SeatMap) → next ≡ seat_changed seats n (kept_changed change)
      → over_state below next round ≡ t
  state_same change works does next made = ap (λ s. over_state below s round) made ∙ (λ i.
      let u : OverState = record {
        nodes = nodes_stay below seats round n is within (kept_changed change)
            (seated_changed change (λ node. node) (slice_index_or below.nodes n stray) (maps.get seats n) (keeps below seats round n is works) does) i;
        held = held_after below seats round n is within (kept_changed change) i;
        worked = worked_stay below seats round n is within (kept_changed change) (λ seat. some_changed change seat.kept) i;
        touched = touched_stay below seats round n is within (kept_changed change) (λ _. refl) i;
        has_room = room_after below seats round n is within (kept_changed change) i;
      } in u)

-- a step: the node of a number is worked on, and then is another one
abbrev pub with_step : OverState → ℕ → (Node → Node) → OverState
with_step t n g = with_node (with_worked t n) n g

module _ (below : GrownNodes) (seats : SeatMap) (round : ℕ) (t : OverState) {w : OverState} (n : ℕ) (is : over_state below seats round ≡ w)
    (nodes : w.nodes ≡ t.nodes) (worked : w.worked ≡ insert t.worked n) (touched : w.touched ≡ t.touched)
    (held : w.held ≡ t.held) (room : w.has_room ≡ t.has_room) (within : n < length t.nodes) where
  now_worked : over_state below seats round ≡ with_worked t n
  now_worked = is ∙ (λ i.
      let u : OverState = record {
        nodes = nodes i;
        held = held i;
        worked = worked i;
        touched = touched i;
        has_room = room i;
      } in u)

  -- what is said of the node is said of it over what is kept
  pub kept_says : {B : Type 0} (f : Node → B) (kept : Kept) → kept_at seats n ≡ Some kept
      → f (slice_index_or t.nodes n stray) ≡ f (node_over kept (slice_index_or below.nodes n stray))
  kept_says f kept there =
      ap (λ (u : OverState). f (slice_index_or u.nodes n stray)) (sym now_worked)
      ∙ ap f (sym (over_kept_at seats below.nodes n kept (within_below below seats round now_worked within) there))

  -- once what is kept has changed
  pub state_stepped : (change : Kept → Kept) (g : Node → Node)
      → ((kept : Kept) → kept_at seats n ≡ Some kept
      → node_over (change kept) (slice_index_or below.nodes n stray) ≡ g (node_over kept (slice_index_or below.nodes n stray)))
      → (next : SeatMap) → next ≡ seat_changed seats n (kept_changed change)
      → over_state below next round ≡ with_step t n g
  state_stepped change g does next made =
      state_changed below seats round n now_worked within change g (inserted_here t.worked n) does next made

-- ---- other bytes of a file that has some of its own, or out of memory

-- a file has other bytes, and was worked on; where memory ran out, all is as it was
pub record HasBytesPut {A E : Type 0} (r : Result A E) (t u : OverState) (n : ℕ) (change : List ℕ → List ℕ) : Type 0 where
  pub nodes : OnOk r (u.nodes ≡ slice_set t.nodes n (with_content (slice_index_or t.nodes n stray) (other_bytes change)))
  pub worked : OnOk r (u.worked ≡ insert t.worked n)
  pub kept : OnErr r (u ≡ t)
  pub touched : u.touched ≡ t.touched
  pub held : u.held ≡ t.held
  pub room : u.has_room ≡ t.has_room

module _ (below : GrownNodes) (seats : SeatMap) (round : ℕ) {t : OverState} (n : ℕ) (is : over_state below seats round ≡ t)
    (within : n < length t.nodes) (some : is_some (own_at seats n) ≡ true) (next : SeatMap)
    (made : next ≡ seat_changed seats n (kept_changed (own_put (own_at next n)))) where
  abbrev own : Option (Vec ℕ)
  own = own_at next n

  abbrev file : Node
  file = slice_index_or below.nodes n stray

  -- the bytes that its node has of its own
  own_there : (kept : Kept) → kept_at seats n ≡ Some kept → own_at seats n ≡ kept.bytes
  unfolding own_at
  own_there kept there = ap own_of there

  put_ok : (change : List ℕ → List ℕ) → ((bytes : List ℕ) → bytes_over own bytes ≡ change (bytes_over (own_at seats n) bytes))
      → over_state below next round ≡ with_node t n (λ node. with_content node (other_bytes change))
  put_ok change put =
      state_changed below seats round n is within (own_put own) (λ node. with_content node (other_bytes change))
      (own_worked below seats round n is some)
      (λ kept there. over-own_put kept file change own
      (put (bytes_of file.content) ∙ ap (λ o. change (bytes_over o (bytes_of file.content))) (own_there kept there)))
      next made

  put_err : ((bytes : List ℕ) → bytes_over own bytes ≡ bytes_over (own_at seats n) bytes) → over_state below next round ≡ t
  put_err same =
      state_same below seats round n is within (own_put own) (own_worked below seats round n is some)
      (λ kept there. over-own_same kept file own
      (same (bytes_of file.content) ∙ ap (λ o. bytes_over o (bytes_of file.content)) (own_there kept there)))
      next made

  -- what the seats say of it
  pub bytes_put : {A E : Type 0} (r : Result A E) (change : List ℕ → List ℕ)
      → OnOk r (is_some (own_at seats n) ≡ true → (bytes : List ℕ) → bytes_over own bytes ≡ change (bytes_over (own_at seats n) bytes))
      → OnErr r ((bytes : List ℕ) → bytes_over own bytes ≡ bytes_over (own_at seats n) bytes)
      → HasBytesPut r t (over_state below next round) n change
  bytes_put (Ok done) change put same =
      let now = put_ok change (put some) in
      record {
        nodes = ap (λ (u : OverState). u.nodes) now;
        worked = ap (λ (u : OverState). u.worked) now ∙ sym (insert_again t.worked n (own_worked below seats round n is some));
        kept = tt;
        touched = ap (λ (u : OverState). u.touched) now;
        held = ap (λ (u : OverState). u.held) now;
        room = ap (λ (u : OverState). u.has_room) now;
      }
  bytes_put (Err e) change put same =
      let now = put_err same in
      record {
        nodes = tt;
        worked = tt;
        kept = now;
        touched = ap (λ (u : OverState). u.touched) now;
        held = ap (λ (u : OverState). u.held) now;
        room = ap (λ (u : OverState). u.has_room) now;
      }

-- ---- rounds

rounds_put : (round n q : ℕ) (seats : SeatMap) (change : Seat → Seat) (seat : Option Seat) (now : Seat) → maps.get seats n ≡ seat
    → AreRounds round seats → ((seat : Seat) → seat.round ≤ round → (change seat).round ≤ round)
    → option_map change seat ≡ Some now → now.round ≤ round
rounds_put round n q seats change None now is are stay there = absurd (cc)
rounds_put round n q seats change (Some seat) now is are stay there =
    subst (λ s. seat_round s ≤ round) there (stay seat (are.past n seat is))
  where
    seat_round : Option Seat → ℕ
    seat_round None = 0
    seat_round (Some seat) = seat.round

-- rounds stay those of seats, of which one has changed
pub rounds_changed : (round n : ℕ) (seats next : SeatMap) (change : Seat → Seat) → AreRounds round seats
    → ((seat : Seat) → seat.round ≤ round → (change seat).round ≤ round) → next ≡ seat_changed seats n change
    → AreRounds round next
rounds_changed round n seats next change are stay made = subst (AreRounds round) (sym made) (record {
  begun = are.begun;
  past = λ q seat there. elim (cases_eq q n) [
    | inl here ↦ rounds_put round n q seats change (maps.get seats n) seat refl are stay
        (sym (seat_here seats n change) ∙ ap (maps.get (seat_changed seats n change)) (sym here) ∙ there)
    | inr other ↦ are.past q seat (sym (seat_other seats n change q other) ∙ there)
  ];
})
