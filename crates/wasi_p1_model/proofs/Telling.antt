-- Events that are written into memory one after another.
use Rattle.std.proofs.Common.{length-append, ℕ, suc, ◌+◌, ◌-◌, ◌*◌, ◌/◌, ◌≡◌, ◌<◌, ◌≤◌, true, false, cond, Bool, nat_le, List, [], ◌∷◌, ◌++◌, length, map, drop, slice_index_or, refl, ap, sym, subst, ◌∙◌, arith}
use Rattle.std.proofs.lemmas.List.{drop_more, drop_all, drop-drop}
use Rattle.wasi_guest.specs.Event.{event_bytes}
use Rattle.wasi_guest.specs.Range.{with_bytes}
use Rattle.wasi_guest.specs.declared.event.Event.{Event}
use Rattle.wasi_guest.proofs.Ranges.{with_bytes_length}
use Rattle.wasi_host.specs.declared.open_handle.OpenHandle.{OpenHandle}
use Rattle.wasi_p1_types.specs.Polling.{awaited_by, waited_by, comes_at, event_of, events, first_size, nodes_in, nodes_read, with_events}
use Rattle.wasi_p1_types.specs.declared.awaited.Awaited.{Awaited}
use Rattle.wasi_p1_types.specs.declared.awaited.Awaited.TheVariants as awaiteds
use Rattle.wasi_p1_types.specs.declared.awaited.Waited.{Waited}

-- those of the subscriptions from one on, with the sizes from one on
abbrev pub left_events : ℕ → List Waited → List ℕ → ℕ → ℕ → List Event
left_events moment ws sizes i read = events moment (drop i ws) (drop read sizes)

-- what was written, with those that are left, is the whole
pub record Put (moment : ℕ) (ws : List Waited) (sizes : List ℕ) (at i read place : ℕ) (before memory : List ℕ) : Type 0 where
  pub inside : place + 32 * (length ws - i) ≤ length memory
  pub few : read ≤ i
  pub behind : at ≤ place
  pub size : length memory ≡ length before
  pub counted : place + 32 * length (left_events moment ws sizes i read) ≡ at + 32 * length (events moment ws sizes)
  pub gives : with_events memory place (left_events moment ws sizes i read) ≡ with_events before at (events moment ws sizes)

pub none_put : {moment at : ℕ} {ws : List Waited} {sizes memory : List ℕ} → at + 32 * length ws ≤ length memory
    → Put moment ws sizes at 0 0 at memory memory
none_put inside = record { inside = omega (arith, inside); few = omega arith; behind = omega arith; size = refl; counted = refl; gives = refl }

-- the first size that is left
pub size_there : (sizes : List ℕ) (read size : ℕ) → read < length sizes → size ≡ slice_index_or sizes read size
    → size ≡ first_size (drop read sizes)
size_there sizes read size within is = rw (drop_more sizes read size within, ← is) refl

pub size_past : (sizes : List ℕ) (read : ℕ) → length sizes ≤ read → 0 ≡ first_size (drop read sizes)
size_past sizes read behind = rw (drop_all read sizes behind) refl

few_sizes : (what : Awaited) → length (nodes_in what) ≤ 1
few_sizes (awaiteds.Clock end) = omega arith
few_sizes awaiteds.Input = omega arith
few_sizes awaiteds.Output = omega arith
few_sizes awaiteds.FileToWrite = omega arith
few_sizes (awaiteds.FileToRead file position) = omega arith

-- one event more, where there is one
pub one_put : {moment at i read read' place next : ℕ} {ws : List Waited} {sizes before memory after : List ℕ} {w : Waited} {size : ℕ}
    → i < length ws → w ≡ slice_index_or ws i w → size ≡ first_size (drop read sizes)
    → next ≡ cond (nat_le (comes_at w.what) moment) (place + 32) place
    → after ≡ cond (nat_le (comes_at w.what) moment) (with_bytes memory place (event_bytes (event_of w size))) memory
    → read' ≡ read + length (nodes_in w.what)
    → Put moment ws sizes at i read place before memory → Put moment ws sizes at (i + 1) read' next before after
unfolding events with_events
one_put {moment} {at} {i} {read} {read'} {place} {next} {ws} {sizes} {before} {memory} {after} {w} {size} within is sized to written reads put =
    by (nat_le (comes_at w.what) moment) to written
    (subst (λ es. place + 32 * length es ≡ at + 32 * length (events moment ws sizes)) these put.counted)
    (subst (λ es. with_events memory place es ≡ with_events before at (events moment ws sizes)) these put.gives)
  where
    rest : List Event
    rest = left_events moment ws sizes (i + 1) read'

    onto : Bool → List Event
    onto b = cond b (event_of w size ∷ rest) rest

    later : drop (length (nodes_in w.what)) (drop read sizes) ≡ drop read' sizes
    later = drop-drop (length (nodes_in w.what)) read sizes ∙ ap (λ n. drop n sizes) (sym reads)

    these : left_events moment ws sizes i read ≡ onto (nat_le (comes_at w.what) moment)
    these = rw (drop_more ws i w within, ← is, later, ← sized) refl

    by : (b : Bool) → next ≡ cond b (place + 32) place → after ≡ cond b (with_bytes memory place (event_bytes (event_of w size))) memory
        → place + 32 * length (onto b) ≡ at + 32 * length (events moment ws sizes)
        → with_events memory place (onto b) ≡ with_events before at (events moment ws sizes)
        → Put moment ws sizes at (i + 1) read' next before after
    by true to written counted gives =
        let long = with_bytes_length memory place (event_bytes (event_of w size)) in
        let size' = ap length written ∙ long in record {
          inside = omega (arith, put.inside, size', to, within);
          few = omega (arith, put.few, reads, few_sizes w.what);
          behind = omega (arith, put.behind, to);
          size = size' ∙ put.size;
          counted = omega (arith, counted, to);
          gives = rw (written, to) gives;
        }
    by false to written counted gives = record {
      inside = omega (arith, put.inside, ap length written, to, within);
      few = omega (arith, put.few, reads, few_sizes w.what);
      behind = omega (arith, put.behind, to);
      size = ap length written ∙ put.size;
      counted = omega (arith, counted, to);
      gives = rw (written, to) gives;
    }

-- none is left
pub all_counted : {moment at i read place : ℕ} {ws : List Waited} {sizes before memory : List ℕ} → length ws ≤ i
    → Put moment ws sizes at i read place before memory → (place - at) / 32 ≡ length (events moment ws sizes)
unfolding events
all_counted {moment} {at} {i} {read} {place} {ws} {sizes} behind put =
    let none : left_events moment ws sizes i read ≡ [] = rw (drop_all i ws behind) refl in
    let counted : place + 0 ≡ at + 32 * length (events moment ws sizes) =
    subst (λ es. place + 32 * length es ≡ at + 32 * length (events moment ws sizes)) none put.counted in
    omega (arith, counted)

pub all_put : {moment at i read place : ℕ} {ws : List Waited} {sizes before memory : List ℕ} → length ws ≤ i
    → Put moment ws sizes at i read place before memory → memory ≡ with_events before at (events moment ws sizes)
unfolding events with_events
all_put {moment} {at} {i} {read} {place} {ws} {sizes} {before} {memory} behind put =
    let none : left_events moment ws sizes i read ≡ [] = rw (drop_all i ws behind) refl in
    subst (λ es. with_events memory place es ≡ with_events before at (events moment ws sizes)) none put.gives

-- ---- what a handle stands for doesn't matter

-- so the events are those of the code
pub events_by : (held : ℕ → OpenHandle) (moment : ℕ) (ws : List Waited) (sizes : List ℕ)
    → events moment (map (waited_by held) ws) sizes ≡ events moment ws sizes
unfolding events
events_by held moment [] sizes = refl
events_by held moment (w ∷ ws) sizes = by w.what (λ sizes. events_by held moment ws sizes)
  where
    by : (what : Awaited) → ((sizes : List ℕ) → events moment (map (waited_by held) ws) sizes ≡ events moment ws sizes)
        → events moment (waited_by held (record w { what = what }) ∷ map (waited_by held) ws) sizes
        ≡ events moment (record w { what = what } ∷ ws) sizes
    by (awaiteds.Clock end) rest = rw (rest sizes) refl
    by awaiteds.Input rest = rw (rest sizes) refl
    by awaiteds.Output rest = rw (rest sizes) refl
    by awaiteds.FileToWrite rest = rw (rest sizes) refl
    by (awaiteds.FileToRead file position) rest = rw (rest (drop 1 sizes)) refl

-- nor are fewer files read
pub reads_by : (held : ℕ → OpenHandle) (ws : List Waited) → length (nodes_read (map (waited_by held) ws)) ≡ length (nodes_read ws)
unfolding nodes_read
reads_by held [] = refl
reads_by held (w ∷ ws) = by w.what (reads_by held ws)
  where
    by : (what : Awaited) → length (nodes_read (map (waited_by held) ws)) ≡ length (nodes_read ws)
        → length (nodes_in (awaited_by held what) ++ nodes_read (map (waited_by held) ws))
        ≡ length (nodes_in what ++ nodes_read ws)
    by (awaiteds.Clock end) rest = rest
    by awaiteds.Input rest = rest
    by awaiteds.Output rest = rest
    by awaiteds.FileToWrite rest = rest
    by (awaiteds.FileToRead file position) rest = ap suc rest

-- ---- for how many the size is asked for

pub sizes_more : (ws : List Waited) (i : ℕ) (w : Waited) → i < length ws → w ≡ slice_index_or ws i w
    → length (nodes_read (drop i ws)) ≡ length (nodes_in w.what) + length (nodes_read (drop (i + 1) ws))
unfolding nodes_read
sizes_more ws i w within is = rw (drop_more ws i w within, ← is) (length-append (nodes_in w.what) (nodes_read (drop (i + 1) ws)))

pub sizes_none : (ws : List Waited) (i : ℕ) → length ws ≤ i → length (nodes_read (drop i ws)) ≡ 0
unfolding nodes_read
sizes_none ws i behind = rw (drop_all i ws behind) refl
