-- What a path means is the same over two trees with equal nodes where it starts, and is found there.
use Rattle.std.proofs.Common.{ℕ, ◌≡◌, true, false, cond, Bool, List, [], ◌∷◌, refl, ap, ◌∙◌, Option, Some, None, Result, Ok, Err}
use Rattle.std.specs.Prelude.{not, ◌&&◌, codes as codes_of}
use Rattle.wasi_host.specs.Options.{Options, creates}
use Rattle.wasi_host.specs.Tree.{Tree, node_at, is_directory}
use Rattle.wasi_host.specs.HostCall.{OpenAt, StatAt}
use Rattle.wasi_host.specs.HostCall as calls
use Rattle.wasi_host.specs.Refusal.{refusal}
use Rattle.wasi_host.specs.Answer.{reached, unless, access_of}
use Rattle.wasi_host.specs.declared.errors.ErrorCode.{ErrorCode}
use Rattle.wasi_host.specs.declared.errors.ErrorCode.TheVariants as codes
use Rattle.wasi_host.specs.declared.open_handle.OpenHandle.{OpenHandle}
use Rattle.wasi_paths.specs.Parts.{Component, split}
use Rattle.wasi_resolve.specs.Walk.{Open, Look, Outcome, Stop, Name, Dot, Walk, walk, last_options}
use Rattle.wasi_host.specs.Steps.{◌>>=◌}
use Rattle.wasi_resolve.specs.Paths.{Opening, opening_of, opening, opened_by, opened, behind_slash, looked_at, looked, Place, parent, place_at, place, directory_options, part_text, or_else, access_unsupported, timed_again, timed, reading, writing}
use Rattle.wasi_host.specs.Agree.{IsClosed, AgreeOn}
use Rattle.wasi_resolve.specs.Laws.{EndsIn, GivesIn}
use Rattle.wasi_host.proofs.Agreeing as host
use Rattle.wasi_resolve.proofs.WalkAgreeing as walks
use Rattle.wasi_resolve.proofs.WalkAgreeing.{from_one}

-- what an answer gives, as long as it isn't refused
unless_seen : {A : Type 0} (Seen : ℕ → Type 0) (node : A → ℕ) (r : Option ErrorCode) (value : A) → (r ≡ None
    → Seen (node value)) → GivesIn Seen node (unless r value)
unless_seen Seen node None value seen = seen refl
unless_seen Seen node (Some code) value seen = tt

module _ {Seen : ℕ → Type 0} {t u : Tree} (closed : IsClosed Seen t) (agree : AgreeOn Seen t u) where
  pub then_same : {A B : Type 0} (node : A → ℕ) (r : Result A ErrorCode) (f g : A → Result B ErrorCode)
      → GivesIn Seen node r → ((a : A) → Seen (node a) → f a ≡ g a) → (r >>= f) ≡ (r >>= g)
  then_same node (Ok a) f g seen same = same a seen
  then_same node (Err code) f g seen same = refl

  pub then_seen : {A B : Type 0} (node : A → ℕ) (node' : B → ℕ) (r : Result A ErrorCode) (f : A
      → Result B ErrorCode) → GivesIn Seen node r → ((a : A) → Seen (node a) → GivesIn Seen node' (f a))
      → GivesIn Seen node' (r >>= f)
  then_seen node node' (Ok a) f seen gives = gives a seen
  then_seen node node' (Err code) f seen gives = tt

  -- ---- open

  opening_of_seen : (o : Options) (outcome : Outcome) → EndsIn Seen outcome
      → GivesIn Seen (λ (e : Opening). e.directory) (opening_of o outcome)
  opening_of_seen o (Stop code) seen = tt
  opening_of_seen o (Name d name slash) seen = seen
  opening_of_seen o (Dot d) seen = by o.write
    where
      by : (w : Bool) → GivesIn Seen (λ (e : Opening). e.directory) (cond w (Err codes.IsDirectory) (Ok
          (record { directory = d; name = codes_of "."; options = o })))
      by true = tt
      by false = seen

  pub opening_same : (s : ℕ) (text : List ℕ) (o : Options) (follow : Bool) → Seen s
      → opening t s text o follow ≡ opening u s text o follow
  unfolding opening
  opening_same s text o follow seen =
      ap (λ (w : Walk). opening_of o w.outcome) (walks.walk_same closed agree s (Open o) follow seen text)

  pub opening_seen : (s : ℕ) (text : List ℕ) (o : Options) (follow : Bool) → Seen s
      → GivesIn Seen (λ (e : Opening). e.directory) (opening t s text o follow)
  unfolding opening
  opening_seen s text o follow seen =
      opening_of_seen o (walk t s text (Open o) follow).outcome (walks.walk_seen closed agree s
      (Open o) follow seen text)

  opened_by_same : (e : Opening) → Seen e.directory → opened_by t e ≡ opened_by u e
  opened_by_same e seen =
      rw (
        host.refused_same closed agree (OpenAt e.directory e.name e.options)
            (from_one Seen seen),
        host.reached_same closed agree e.directory e.name seen,
      ) refl

  pub opened_same : (s : ℕ) (text : List ℕ) (o : Options) (follow : Bool) → Seen s
      → opened t s text o follow ≡ opened u s text o follow
  opened_same s text o follow seen =
      then_same (λ e. e.directory) (opening t s text o follow) (opened_by t) (opened_by u)
      (opening_seen s text o follow seen) opened_by_same
      ∙ ap (λ r. r >>= opened_by u) (opening_same s text o follow seen)

  opened_by_seen : (e : Opening) → creates e.options ≡ false → Seen e.directory
      → GivesIn Seen (λ (held : OpenHandle). held.node) (opened_by t e)
  opened_by_seen e makes_none seen =
      unless_seen Seen (λ (held : OpenHandle). held.node) (refusal t (OpenAt e.directory e.name e.options))
      (record { node = reached t e.directory e.name; mode = access_of e.options })
      (λ none. walks.reached_seen closed agree e.directory e.name e.options seen makes_none none)

  dot_seen : (o : Options) (d : ℕ) (w : Bool) → creates o ≡ false → Seen d
      → GivesIn Seen (λ (held : OpenHandle). held.node) (cond w (Err codes.IsDirectory) (Ok
      (record { directory = d; name = codes_of "."; options = o })) >>= opened_by t)
  dot_seen o d true makes_none seen = tt
  dot_seen o d false makes_none seen =
      opened_by_seen (record { directory = d; name = codes_of "."; options = o }) makes_none seen

  opened_of_seen : (o : Options) (outcome : Outcome) → creates o ≡ false → EndsIn Seen outcome
      → GivesIn Seen (λ (held : OpenHandle). held.node) (opening_of o outcome >>= opened_by t)
  opened_of_seen o (Stop code) makes_none seen = tt
  opened_of_seen o (Name d name slash) makes_none seen =
      opened_by_seen (record { directory = d; name = name; options = last_options o slash }) makes_none seen
  opened_of_seen o (Dot d) makes_none seen = dot_seen o d o.write makes_none seen

  -- an open that makes nothing gives a node of the set
  pub opened_seen : (s : ℕ) (text : List ℕ) (o : Options) (follow : Bool) → creates o ≡ false → Seen s
      → GivesIn Seen (λ (held : OpenHandle). held.node) (opened t s text o follow)
  unfolding opening
  opened_seen s text o follow makes_none seen =
      opened_of_seen o (walk t s text (Open o) follow).outcome makes_none (walks.walk_seen closed agree s
      (Open o) follow seen text)

  -- ---- look

  pub name_seen : (d : ℕ) (name : List ℕ) → Seen d
      → GivesIn Seen (λ n. n) (unless (refusal t (StatAt d name)) (reached t d name))
  name_seen d name seen =
      unless_seen Seen (λ n. n) (refusal t (StatAt d name)) (reached t d name)
      (λ none. walks.looked_seen closed agree d name seen none)

  looked_at_same : (outcome : Outcome) → EndsIn Seen outcome → looked_at t outcome ≡ looked_at u outcome
  looked_at_same (Stop code) seen = refl
  looked_at_same (Name d name slash) seen =
      then_same (λ n. n) (unless (refusal t (StatAt d name)) (reached t d name)) (behind_slash t slash)
      (behind_slash u slash) (name_seen d name seen) (λ n has. rw (agree.nodes n has) refl)
      ∙ ap (λ r. r >>= behind_slash u slash) (rw (
        host.refused_same closed agree (StatAt d name)
            (from_one Seen seen),
        host.reached_same closed agree d name seen,
      ) refl)
  looked_at_same (Dot d) seen =
      ap (λ r. unless r d) (host.refused_same closed agree (calls.Access d) (from_one Seen seen))

  slash_seen : (slash : Bool) (n : ℕ) → Seen n → GivesIn Seen (λ n. n) (behind_slash t slash n)
  slash_seen slash n seen = by (slash && not (is_directory (node_at t n).content))
    where
      by : (b : Bool) → GivesIn Seen (λ n. n) (cond b (Err codes.NotDirectory) (Ok n))
      by true = tt
      by false = seen

  looked_at_seen : (outcome : Outcome) → EndsIn Seen outcome → GivesIn Seen (λ n. n) (looked_at t outcome)
  looked_at_seen (Stop code) seen = tt
  looked_at_seen (Name d name slash) seen =
      then_seen (λ n. n) (λ n. n) (unless (refusal t (StatAt d name)) (reached t d name)) (behind_slash t slash)
      (name_seen d name seen) (slash_seen slash)
  looked_at_seen (Dot d) seen = unless_seen Seen (λ n. n) (refusal t (calls.Access d)) d (λ _. seen)

  pub looked_same : (s : ℕ) (text : List ℕ) (follow : Bool) → Seen s → looked t s text follow ≡ looked u s text follow
  unfolding looked
  looked_same s text follow seen =
      looked_at_same (walk t s text Look follow).outcome (walks.walk_seen closed agree s Look follow seen text)
      ∙ ap (λ (w : Walk). looked_at u w.outcome) (walks.walk_same closed agree s Look follow seen text)

  pub looked_seen : (s : ℕ) (text : List ℕ) (follow : Bool) → Seen s → GivesIn Seen (λ n. n) (looked t s text follow)
  unfolding looked
  looked_seen s text follow seen =
      looked_at_seen (walk t s text Look follow).outcome (walks.walk_seen closed agree s Look follow seen text)

  -- ---- place

  parent_same : (s : ℕ) (text : List ℕ) → Seen s → parent t s text ≡ parent u s text
  parent_same s [] seen = refl
  parent_same s (b ∷ text) seen =
      ap (λ r. r >>= (λ (held : OpenHandle). Ok held.node)) (opened_same s (b ∷ text) directory_options true seen)

  parent_seen : (s : ℕ) (text : List ℕ) → Seen s → GivesIn Seen (λ n. n) (parent t s text)
  parent_seen s [] seen = seen
  parent_seen s (b ∷ text) seen =
      then_seen (λ (held : OpenHandle). held.node) (λ n. n) (opened t s (b ∷ text) directory_options true)
      (λ held. Ok held.node) (opened_seen s (b ∷ text) directory_options true refl seen) (λ held has. has)

  place_at_same : (s : ℕ) (halves : Option (List ℕ × Component)) → Seen s → place_at t s halves ≡ place_at u s halves
  place_at_same s None seen = refl
  place_at_same s (Some halves) seen =
      ap (λ r. r >>= (λ (d : ℕ). let p : Result Place ErrorCode = Ok
      (record { directory = d; name = part_text halves.1 }) in p)) (parent_same s halves.0 seen)

  place_at_seen : (s : ℕ) (halves : Option (List ℕ × Component)) → Seen s
      → GivesIn Seen (λ (p : Place). p.directory) (place_at t s halves)
  place_at_seen s None seen = tt
  place_at_seen s (Some halves) seen =
      then_seen (λ n. n) (λ (p : Place). p.directory) (parent t s halves.0) (λ d. Ok
      (record { directory = d; name = part_text halves.1 })) (parent_seen s halves.0 seen) (λ d has. has)

  pub place_same : (s : ℕ) (text : List ℕ) → Seen s → place t s text ≡ place u s text
  unfolding place
  place_same s text seen = place_at_same s (split text) seen

  pub place_seen : (s : ℕ) (text : List ℕ) → Seen s → GivesIn Seen (λ (p : Place). p.directory) (place t s text)
  unfolding place
  place_seen s text seen = place_at_seen s (split text) seen

  -- ---- times

  timed_again_same : (s : ℕ) (text : List ℕ) (code : ErrorCode) → Seen s
      → timed_again t s text code ≡ timed_again u s text code
  timed_again_same s text codes.Access seen = ap (or_else access_unsupported) (opened_same s text reading true seen)
  timed_again_same s text codes.IsDirectory seen =
      ap (or_else access_unsupported) (opened_same s text reading true seen)
  timed_again_same s text code seen = refl

  or_same : (r : Result OpenHandle ErrorCode) (f g : ErrorCode → Result OpenHandle ErrorCode) → ((code : ErrorCode)
      → f code ≡ g code) → or_else f r ≡ or_else g r
  or_same (Ok held) f g same = refl
  or_same (Err code) f g same = same code

  or_seen : (r : Result OpenHandle ErrorCode) (f : ErrorCode → Result OpenHandle ErrorCode)
      → GivesIn Seen (λ (held : OpenHandle). held.node) r → ((code : ErrorCode)
      → GivesIn Seen (λ (held : OpenHandle). held.node) (f code)) → GivesIn Seen (λ (held : OpenHandle). held.node) (or_else f r)
  or_seen (Ok held) f seen others = seen
  or_seen (Err code) f seen others = others code

  unsupported_seen : (code : ErrorCode) → GivesIn Seen (λ (held : OpenHandle). held.node) (access_unsupported code)
  unsupported_seen codes.Access = tt
  unsupported_seen code = tt

  pub timed_same : (s : ℕ) (text : List ℕ) → Seen s → timed t s text ≡ timed u s text
  unfolding timed
  timed_same s text seen =
      or_same (opened t s text writing true) (timed_again t s text) (timed_again u s text)
      (λ code. timed_again_same s text code seen)
      ∙ ap (or_else (timed_again u s text)) (opened_same s text writing true seen)

  timed_again_seen : (s : ℕ) (text : List ℕ) (code : ErrorCode) → Seen s
      → GivesIn Seen (λ (held : OpenHandle). held.node) (timed_again t s text code)
  timed_again_seen s text codes.Access seen =
      or_seen (opened t s text reading true) access_unsupported
      (opened_seen s text reading true refl seen) unsupported_seen
  timed_again_seen s text codes.IsDirectory seen =
      or_seen (opened t s text reading true) access_unsupported
      (opened_seen s text reading true refl seen) unsupported_seen
  timed_again_seen s text code seen = tt

  pub timed_seen : (s : ℕ) (text : List ℕ) → Seen s → GivesIn Seen (λ (held : OpenHandle). held.node) (timed t s text)
  unfolding timed
  timed_seen s text seen =
      or_seen (opened t s text writing true) (timed_again t s text) (opened_seen s text writing true refl seen)
      (λ code. timed_again_seen s text code seen)
