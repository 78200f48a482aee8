-- A look at a plain name, as a path: it is the host's look at that name.
use Rattle.std.proofs.Common.{ℕ, ◌≡◌, Bool, true, false, List, [], ◌∷◌, ◌++◌, map, Option, Some, None, Ok, Err, refl, ap, sym, ◌∙◌, subst}
use Rattle.std.specs.Prelude.{IsTrue, not, ◌&&◌, ◌||◌, codes}
use Rattle.std.specs.List.{filter}
use Rattle.std.specs.Str.{bytes_eq}
use Rattle.std.proofs.lemmas.List.Elements.{All-nil}
use Rattle.wasi_paths.specs.Text.{is_plain, is_dot_text, has_slash}
use Rattle.wasi_paths.specs.Parts.{Normal, is_slash, is_empty, is_kept, segments, first_segment, has_root, component_of, components, parts, trailing_dot, trailing_slash}
use Rattle.wasi_paths.proofs.ComponentLemmas.{components_are, lead_other}
use Rattle.wasi_host.specs.Answer.{host_answer, metadata_of, reached, unless}
use Rattle.wasi_host.specs.HostCall.{StatAt}
use Rattle.wasi_host.specs.HostLaws.{Handles, HostModel, MeansErr, RefinesCall}
use Rattle.wasi_host.specs.Refusal.{refusal, holds}
use Rattle.wasi_host.specs.Steps.{◌>>=◌}
use Rattle.wasi_host.specs.Tree.{Tree, is_link}
use Rattle.wasi_host.specs.declared.errors.ErrorCode.{ErrorCode}
use Rattle.wasi_host.specs.declared.errors.HostError.{HostError}
use Rattle.wasi_host.specs.declared.file_type.FileType.{FileType}
use Rattle.wasi_host.specs.declared.metadata.Metadata.{Metadata}
use Rattle.wasi_resolve.specs.Paths.{behind_slash, looked}
use Rattle.wasi_resolve.specs.PathRequest.{LookPath, path_reply}
use Rattle.wasi_resolve.specs.Resolved.{Resolved}
use Rattle.wasi_resolve.specs.Walk.{Look, Name, is_to_be_read, walk}
use Rattle.wasi_resolve.proofs.Calls.{call_err, call_ok, found_ok, looks_of, means_then, resolved_err, same_live}
use Rattle.wasi_p1_model.specs.EntriesSeen.{entry_seen, reads_from}
use Rattle.wasi_p1_types.specs.Listing.{numbered_at}
use Rattle.wasi_p1_types.specs.declared.looked.Entry.{Entry as Stored}

-- ---- the parts of a plain name

-- a text without a slash is one segment
one_segment : (text : List ℕ) → has_slash text ≡ false → segments text ≡ text ∷ []
one_segment [] none = refl
one_segment (b ∷ text) none = by (is_slash b) refl none (one_segment text (behind (is_slash b) none))
  where
    behind : (slash : Bool) → (slash || has_slash text) ≡ false → has_slash text ≡ false
    behind true none = absurd (cc)
    behind false none = none

    by : (slash : Bool) → is_slash b ≡ slash → (slash || has_slash text) ≡ false → segments text ≡ text ∷ []
        → segments (b ∷ text) ≡ (b ∷ text) ∷ []
    by true is none rest = absurd (cc)
    by false is none rest = rw (is, rest) refl

-- and has no root
no_root : (text : List ℕ) → has_slash text ≡ false → has_root text ≡ false
unfolding has_root
no_root [] none = refl
no_root (b ∷ text) none = by (is_slash b) none
  where
    by : (slash : Bool) → (slash || has_slash text) ≡ false → slash ≡ false
    by true none = absurd (cc)
    by false none = refl

-- what a plain name isn't
record Lacks (name : List ℕ) : Type 0 where
  pub nothing : is_empty name ≡ false
  pub dot : is_dot_text name ≡ false
  pub parent : bytes_eq name (codes "..") ≡ false
  pub slash : has_slash name ≡ false

lacks : (name : List ℕ) → IsTrue (is_plain name) → Lacks name
lacks name plain = by (is_empty name) (is_dot_text name) (bytes_eq name (codes "..")) (has_slash name) refl refl refl refl plain
  where
    by : (a b c d : Bool) → is_empty name ≡ a → is_dot_text name ≡ b → bytes_eq name (codes "..") ≡ c → has_slash name ≡ d
        → (not a && not b && not c && not d) ≡ true → Lacks name
    by false false false false nothing dot parent slash is =
        record { nothing = nothing; dot = dot; parent = parent; slash = slash }
    by true b c d nothing dot parent slash is = absurd (cc)
    by false true c d nothing dot parent slash is = absurd (cc)
    by false false true d nothing dot parent slash is = absurd (cc)
    by false false false true nothing dot parent slash is = absurd (cc)

module _ (name : List ℕ) (plain : IsTrue (is_plain name)) where
  lack : Lacks name
  lack = lacks name plain

  one : segments name ≡ name ∷ []
  one = one_segment name lack.slash

  own_component : components name ≡ Normal name ∷ []
  own_component =
      components_are name
      ∙ ap (λ front. front ++ map component_of (filter is_kept (segments name)))
      (lead_other name false (no_root name lack.slash) (ap (λ pieces. is_dot_text (first_segment pieces)) one ∙ lack.dot))
      ∙ rw (one, lack.nothing, lack.dot, lack.parent) refl

  no_dot : trailing_dot name ≡ false
  unfolding trailing_dot
  no_dot = rw (one, lack.nothing) lack.dot

  no_slash : trailing_slash name ≡ false
  unfolding trailing_slash
  no_slash = rw (one, lack.nothing) refl

  own_part : parts name ≡ Normal name ∷ []
  unfolding parts
  own_part = rw (own_component, no_dot) refl

  -- ---- the look

  module _ (t : Tree) (d : ℕ) where
    unread : is_to_be_read t Look false false true d name ≡ false
    unfolding is_to_be_read
    unread = by (holds t d name (λ n. is_link n.content)) _
      where
        by : (b c : Bool) → (b && false && c) ≡ false
        by true c = refl
        by false c = refl

    ends_there : (walk t d name Look false).outcome ≡ Name d name false
    unfolding walk
    ends_there = rw (lack.nothing, no_slash, own_part, unread) refl

    -- a plain name is looked at where it stands
    pub look_plain : path_reply t (LookPath d name false) ≡ host_answer t (StatAt d name)
    unfolding looked
    look_plain = rw ends_there (by (refusal t (StatAt d name)))
      where
        by : (o : Option ErrorCode) → unless o (reached t d name) >>= behind_slash t false >>= (λ n. Ok (metadata_of t n))
            ≡ unless o (metadata_of t (reached t d name))
        by None = refl
        by (Some code) = refl

-- ---- an entry with the number of its node

module _ {live new : Handles} {w v : HostModel} {d : ℕ} {name : List ℕ} (kind : FileType) (plain : IsTrue (is_plain name))
    (same : new ≡ live) where
  -- it is looked at
  pub numbered_so : {m : Metadata} (entry : Stored) → entry_seen entry ≡ record { name = name; node = m.node; kind = kind }
      → RefinesCall live new w v (StatAt d name) (λ metadata. metadata) (Ok m)
      → Resolved live w v (reads_from w.tree d (numbered_at w.tree d (name, kind))) entry_seen (Ok entry)
  numbered_so {m} entry seen modelled =
      let answer : path_reply w.tree (LookPath d name false) ≡ Ok m = look_plain name plain w.tree d ∙ modelled.meaning in
      found_ok entry_seen entry
      (ap (λ r. r >>= (λ (metadata : Metadata). Ok (record { name = name; node = metadata.node; kind = kind }))) answer
      ∙ ap Ok (sym seen))
      (looks_of (Ok m) (λ _. refl) (call_ok [] (All-nil _) (same_live same) modelled))

  -- or the look is refused
  pub not_numbered : (e : HostError) → RefinesCall live new w v (StatAt d name) (λ metadata. metadata) (Err e)
      → Resolved live w v (reads_from w.tree d (numbered_at w.tree d (name, kind))) entry_seen (Err e)
  not_numbered e modelled =
      resolved_err (reads_from w.tree d (numbered_at w.tree d (name, kind))) entry_seen e refl
      (means_then (path_reply w.tree (LookPath d name false)) _ e
      (subst (λ r. MeansErr r e) (sym (look_plain name plain w.tree d)) modelled.meaning))
      (looks_of (Err e) (λ _. refl) (call_err e [] same modelled))
