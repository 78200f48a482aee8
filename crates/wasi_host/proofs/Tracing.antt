-- Lemmas for callers of a host, on the lookups that they add.
use Rattle.std.proofs.Common.{◌≡◌, ◌⊎◌, inl, inr, ℕ, List, [], ◌∷◌, ◌++◌, Option, Some, None, Result, Ok, Err, refl, sym, ap, ◌∙◌, append_assoc}
use Rattle.std.proofs.lemmas.List.{append-nil}
use Rattle.wasi_host.specs.HostLaws.{Handles, Logged, LoggedErr, MaybeLogged, LoggedGotErr, MaybeLoggedGot, one_looked, both_looked}
use Rattle.wasi_host.specs.Provenance.{OrGot, OrGotIn, LookupsHaveProvenance, HasProvenance, Only, OneOf, Nothing}
use Rattle.wasi_host.specs.declared.errors.ErrorCode.TheVariants.{Io}
use Rattle.wasi_host.specs.declared.errors.HostError.{HostError}
use Rattle.wasi_host.specs.declared.errors.HostError.TheVariants.{Code, Memory}
use Rattle.wasi_host.specs.declared.lookup.Lookup.{Lookup}
use Rattle.wasi_host.specs.declared.lookup.LookKind.{LookKind}

-- ---- more handles are known

or_got_more : (A B : ℕ → Type 0) → ((h : ℕ) → A h → B h) → (got : Option ℕ) (h : ℕ) → OrGot A got h → OrGot B got h
or_got_more A B more None h has = more h has
or_got_more A B more (Some g) h (inl has) = inl (more h has)
or_got_more A B more (Some g) h (inr is) = inr is

pub got_in_more : (A B : ℕ → Type 0) → ((h : ℕ) → A h → B h) → (piece : List Lookup) (h : ℕ) → OrGotIn A piece h
    → OrGotIn B piece h
got_in_more A B more [] h has = more h has
got_in_more A B more (entry ∷ rest) h has = got_in_more (OrGot A entry.got) (OrGot B entry.got) (or_got_more A B more entry.got) rest h has

pub provenance_more : (A B : ℕ → Type 0) → ((h : ℕ) → A h → B h) → (piece : List Lookup) → LookupsHaveProvenance A piece
    → LookupsHaveProvenance B piece
provenance_more A B more [] has = tt
provenance_more A B more (entry ∷ rest) has =
    (more entry.from has.0, provenance_more (OrGot A entry.got) (OrGot B entry.got) (or_got_more A B more entry.got) rest has.1)

known_still : (A : ℕ → Type 0) (got : Option ℕ) (h : ℕ) → A h → OrGot A got h
known_still A None h has = has
known_still A (Some g) h has = inl has

pub in_still : (A : ℕ → Type 0) (piece : List Lookup) (h : ℕ) → A h → OrGotIn A piece h
in_still A [] h has = has
in_still A (entry ∷ rest) h has = in_still (OrGot A entry.got) rest h (known_still A entry.got h has)

-- ---- a piece after another

provenance-append : (A : ℕ → Type 0) (xs ys : List Lookup) → LookupsHaveProvenance A xs → LookupsHaveProvenance (OrGotIn A xs) ys
    → LookupsHaveProvenance A (xs ++ ys)
provenance-append A [] ys first second = second
provenance-append A (x ∷ xs) ys first second = (first.0, provenance-append (OrGot A x.got) xs ys first.1 second)

got_in-append : (A : ℕ → Type 0) (xs ys : List Lookup) (h : ℕ) → OrGotIn (OrGotIn A xs) ys h → OrGotIn A (xs ++ ys) h
got_in-append A [] ys h has = has
got_in-append A (x ∷ xs) ys h has = got_in-append (OrGot A x.got) xs ys h has

-- a piece from handles that are kept, after another
pub traced_then : {Given Given' Kept Mid Kept' : ℕ → Type 0} {a b c : List Lookup} → ((h : ℕ) → Kept h → Given h)
    → ((h : ℕ) → Given' h → Mid h)
    → HasProvenance Given Kept Mid a b → HasProvenance Given' Mid Kept' b c → HasProvenance Given Kept Kept' a c
traced_then {Given} {Given'} {Kept} {Mid} {Kept'} {a} {b} {c} own from first second = record {
  piece = first.piece ++ second.piece;
  adds = second.adds ∙ ap (λ l. l ++ second.piece) first.adds ∙ append_assoc a first.piece second.piece;
  provenance = provenance-append Given first.piece second.piece first.provenance
      (provenance_more Given' (OrGotIn Given first.piece) (λ h has. got_in_more Kept Given own first.piece h (first.ends h (from h has))) second.piece second.provenance);
  ends = λ h has. got_in-append Kept first.piece second.piece h (got_in_more Mid (OrGotIn Kept first.piece) first.ends second.piece h (second.ends h has));
}

-- ---- one call

pub traced_none : (Given Kept Kept' : ℕ → Type 0) (old new : List Lookup) → new ≡ old → ((h : ℕ) → Kept' h → Kept h)
    → HasProvenance Given Kept Kept' old new
traced_none Given Kept Kept' old new same less = record { piece = []; adds = same ∙ sym (append-nil old); provenance = tt; ends = less }

traced_one : (Given Kept Kept' : ℕ → Type 0) (old new : List Lookup) (entry : Lookup) → Given entry.from
    → new ≡ old ++ entry ∷ [] → ((h : ℕ) → Kept' h → OrGot Kept entry.got h) → HasProvenance Given Kept Kept' old new
traced_one Given Kept Kept' old new entry is adds ends = record { piece = entry ∷ []; adds = adds; provenance = (is, tt); ends = ends }

-- a call that got a handle
pub traced_got : (old new : List Lookup) (kind : LookKind) (from h : ℕ)
    → new ≡ old ++ record { kind = kind; from = from; got = Some h } ∷ []
    → HasProvenance (Only from) Nothing (Only h) old new
traced_got old new kind from h adds =
    traced_one (Only from) Nothing (Only h) old new (record { kind = kind; from = from; got = Some h }) refl adds (λ q is. inr is)

-- a call that was to get a handle, and failed
maybe_traced_got : (live : Handles) (old new : List Lookup) (kind : LookKind) (from : ℕ)
    → MaybeLoggedGot live old kind from new → HasProvenance (Only from) Nothing Nothing old new
maybe_traced_got live old new kind from logged = elim logged [
  | inl same ↦ traced_none (Only from) Nothing Nothing old new same (λ q none. none)
  | inr adds ↦ traced_one (Only from) Nothing Nothing old new (record { kind = kind; from = from; got = adds.got }) refl
      adds.adds (λ q none. absurd none)
]

pub traced_got_err : (live : Handles) (old new : List Lookup) (kind : LookKind) (from : ℕ) (e : HostError)
    → LoggedGotErr live old kind from e new → HasProvenance (Only from) Nothing Nothing old new
traced_got_err live old new kind from Memory logged = maybe_traced_got live old new kind from logged
traced_got_err live old new kind from (Code Io) logged = maybe_traced_got live old new kind from logged
traced_got_err live old new kind from (Code code) logged =
    traced_one (Only from) Nothing Nothing old new (record { kind = kind; from = from; got = None }) refl logged (λ q none. absurd none)

-- a call that gets no handle
traced_piece : {Given : ℕ → Type 0} {old new : List Lookup} (piece : List Lookup) → LookupsHaveProvenance Given piece
    → new ≡ old ++ piece → HasProvenance Given Nothing Nothing old new
traced_piece piece has adds = record { piece = piece; adds = adds; provenance = has; ends = λ h none. absurd none }

maybe_traced : {Given : ℕ → Type 0} {old new : List Lookup} (piece : List Lookup) → LookupsHaveProvenance Given piece
    → MaybeLogged old piece new → HasProvenance Given Nothing Nothing old new
maybe_traced {Given} {old} {new} piece has logged = elim logged [
  | inl same ↦ traced_none Given Nothing Nothing old new same (λ q none. none)
  | inr adds ↦ traced_piece piece has adds
]

traced_err : {Given : ℕ → Type 0} {old new : List Lookup} (piece : List Lookup) → LookupsHaveProvenance Given piece
    → (e : HostError) → LoggedErr old piece e new → HasProvenance Given Nothing Nothing old new
traced_err piece has Memory logged = maybe_traced piece has logged
traced_err piece has (Code Io) logged = maybe_traced piece has logged
traced_err piece has (Code code) logged = traced_piece piece has logged

traced_logged : {A : Type 0} {Given : ℕ → Type 0} {old new : List Lookup} (piece : List Lookup) → LookupsHaveProvenance Given piece
    → (r : Result A HostError) → Logged old piece r new → HasProvenance Given Nothing Nothing old new
traced_logged piece has (Ok a) logged = traced_piece piece has logged
traced_logged piece has (Err e) logged = traced_err piece has e logged

-- a call at one handle
pub traced_call : {A : Type 0} {old new : List Lookup} (kind : LookKind) (from : ℕ) (r : Result A HostError)
    → Logged old (one_looked kind from) r new → HasProvenance (Only from) Nothing Nothing old new
traced_call kind from r logged = traced_logged (one_looked kind from) (refl, tt) r logged

-- a call with two names
pub traced_two : {A : Type 0} {before now : List Lookup} (kind : LookKind) (old new : ℕ) (r : Result A HostError)
    → Logged before (both_looked kind old new) r now → HasProvenance (OneOf old new) Nothing Nothing before now
traced_two kind old new r logged = traced_logged (both_looked kind old new) (inl refl, (inr refl, tt)) r logged

-- ---- the same in other words

-- calls that add none before or after
pub traced_same : {Given Kept Kept' : ℕ → Type 0} {old new : List Lookup} (now : List Lookup) → now ≡ new
    → HasProvenance Given Kept Kept' old new → HasProvenance Given Kept Kept' old now
traced_same now same traced = record { piece = traced.piece; adds = same ∙ traced.adds; provenance = traced.provenance; ends = traced.ends }

-- other handles are given
pub traced_given : {Given Kept Kept' : ℕ → Type 0} {old new : List Lookup} (Given' : ℕ → Type 0)
    → ((h : ℕ) → Given h → Given' h) → HasProvenance Given Kept Kept' old new → HasProvenance Given' Kept Kept' old new
traced_given {Given} Given' more traced =
    record { piece = traced.piece; adds = traced.adds; provenance = provenance_more Given Given' more traced.piece traced.provenance; ends = traced.ends }

-- other handles are kept: each was kept, or is one that the piece got
pub traced_kept : {Given Made : ℕ → Type 0} {old new : List Lookup} (Kept Kept' : ℕ → Type 0)
    → ((h : ℕ) → Kept' h → Kept h ⊎ Made h) → HasProvenance Given Nothing Made old new → HasProvenance Given Kept Kept' old new
traced_kept Kept Kept' each traced = record {
  piece = traced.piece;
  adds = traced.adds;
  provenance = traced.provenance;
  ends =
      λ h has. elim (each h has) [ inl kept ↦ in_still Kept traced.piece h kept | inr made ↦ got_in_more Nothing Kept (λ q none. absurd none) traced.piece h (traced.ends h made) ];
}

-- a last part, after which no handle is kept but what it made
pub traced_last : {Given Given' Mid Made : ℕ → Type 0} {a b c : List Lookup} → ((h : ℕ) → Given' h → Mid h)
    → HasProvenance Given Given Mid a b → HasProvenance Given' Nothing Made b c → HasProvenance Given Nothing Made a c
traced_last {Given} {Given'} {a = a} from first second = record {
  piece = first.piece ++ second.piece;
  adds = second.adds ∙ ap (λ l. l ++ second.piece) first.adds ∙ append_assoc a first.piece second.piece;
  provenance = provenance-append Given first.piece second.piece first.provenance
      (provenance_more Given' (OrGotIn Given first.piece) (λ h has. first.ends h
      (from h has)) second.piece second.provenance);
  ends =
      λ h has. got_in-append Nothing first.piece second.piece h (got_in_more Nothing (OrGotIn Nothing first.piece)
      (λ q none. absurd none) second.piece h (second.ends h has));
}

-- no handle is kept afterwards
pub traced_less : {Given Kept Kept' : ℕ → Type 0} {old new : List Lookup} → HasProvenance Given Kept Kept' old new
    → HasProvenance Given Nothing Nothing old new
traced_less traced =
    record { piece = traced.piece; adds = traced.adds; provenance = traced.provenance; ends = λ h none. absurd none }

-- a second call from the same handle, the first of which made nothing
pub traced_twice : {from : ℕ} {Made : ℕ → Type 0} {a b c : List Lookup} → HasProvenance (Only from) Nothing Nothing a b
    → HasProvenance (Only from) Nothing Made b c → HasProvenance (Only from) Nothing Made a c
traced_twice {from} first second =
    traced_last (λ h is. is) (traced_kept (Only from) (Only from) (λ h is. inl is) first) second
