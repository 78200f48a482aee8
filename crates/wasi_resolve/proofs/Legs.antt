-- The walk by nodes, a part at a time.
use Rattle.std.proofs.Common.{◌≡◌, ℕ, suc, ◌≤◌, Bool, true, false, cond, List, [], ◌∷◌, Option, Some, None, Ok, Err, refl, sym, ap, subst, ◌∙◌, arith}
use Rattle.wasi_host.specs.Tree.{Tree, node_at}
use Rattle.wasi_host.specs.ValidTree.{Reached}
use Rattle.wasi_host.specs.HostCall.{OpenAt}
use Rattle.wasi_host.specs.Refusal.{refusal}
use Rattle.wasi_host.specs.Answer.{reached, link_text, access_answer}
use Rattle.wasi_host.specs.declared.errors.ErrorCode.{ErrorCode}
use Rattle.wasi_host.specs.declared.errors.ErrorCode.TheVariants as codes
use Rattle.wasi_host.specs.declared.errors.HostError.TheVariants.{Code}
use Rattle.wasi_paths.specs.Parts.{Component, RootDir, CurDir, ParentDir, Normal}
use Rattle.wasi_resolve.specs.Walk.{Aim, Stop, Name, Leg, Ended, Linked, is_to_be_read, refused, middle_options, unless_refused}
use Rattle.wasi_resolve.specs.ByNodes.{top, leg_nodes}
use Rattle.wasi_resolve.specs.WalkSteps.{SameWalk, IsRefused, is_met_link, taken_by, AreReached}
use Rattle.wasi_host.proofs.Touching.{at_root}
use Rattle.wasi_resolve.proofs.Tables.{middle_to_read}

-- ---- the same walk from another state

pub same_here : (t : Tree) (s : ℕ) (parts : List Component) (nodes : List ℕ) → SameWalk t s parts nodes parts nodes
same_here t s parts nodes = record { at = λ aim follow slash m. record { taken = m; count = refl; same = refl } }

pub same_then : {t : Tree} {s : ℕ} {a b c : List Component} {x y z : List ℕ} → SameWalk t s a x b y → SameWalk t s b y c z
    → SameWalk t s a x c z
same_then first second = record {
  at = λ aim follow slash m.
      let one = first.at aim follow slash m in
      let two = second.at aim follow slash one.taken in
      record { taken = two.taken; count = two.count ∙ one.count; same = one.same ∙ two.same };
}

pub same_nodes : {t : Tree} {s : ℕ} {a b : List Component} {x y z : List ℕ} → SameWalk t s a x b y → y ≡ z
    → SameWalk t s a x b z
same_nodes {t} {s} {a} {b} {x} same is = subst (SameWalk t s a x b) is same

-- a part is taken, with these nodes then
taken_one : {t : Tree} {s : ℕ} {part : Component} {rest : List Component} {x y : List ℕ}
    → ((aim : Aim) (follow slash : Bool) (m : ℕ)
    → leg_nodes t s aim follow slash m (part ∷ rest) x ≡ leg_nodes t s aim follow slash (suc m) rest y)
    → SameWalk t s (part ∷ rest) x rest y
taken_one {rest = rest} step = record {
  at = λ aim follow slash m. record { taken = suc m; count = omega arith; same = step aim follow slash m };
}

-- ---- `/`, `.` and `..`

pub root_refused : (t : Tree) (s : ℕ) (rest : List Component) (nodes : List ℕ)
    → IsRefused t s (RootDir ∷ rest) nodes (Code codes.NotPermitted)
root_refused t s rest nodes = record { code = codes.NotPermitted; is = refl; ends = λ aim follow slash m. refl }

pub dot_same : (t : Tree) (s : ℕ) (rest : List Component) (nodes : List ℕ) → SameWalk t s (CurDir ∷ rest) nodes rest nodes
dot_same t s rest nodes = taken_one (λ aim follow slash m. refl)

pub top_refused : (t : Tree) (s : ℕ) (rest : List Component) {nodes : List ℕ} → nodes ≡ []
    → IsRefused t s (ParentDir ∷ rest) nodes (Code codes.NotPermitted)
top_refused t s rest none =
    subst (λ l. IsRefused t s (ParentDir ∷ rest) l (Code codes.NotPermitted)) (sym none)
    (record { code = codes.NotPermitted; is = refl; ends = λ aim follow slash m. refl })

bit_set : (t : Tree) (d : ℕ) → access_answer t d ≡ Ok tt → (node_at t d).bits.x ≡ true
unfolding refusal
bit_set t d is = grind (arith)

bit_unset : (t : Tree) (d : ℕ) (code : ErrorCode) → access_answer t d ≡ Err code
    → ((node_at t d).bits.x ≡ false) × (code ≡ codes.Access)
unfolding refusal
bit_unset t d code is = (grind (arith), grind (arith))

pub up_same : (t : Tree) (s : ℕ) (rest : List Component) (d : ℕ) (under : List ℕ) {nodes : List ℕ} → nodes ≡ d ∷ under
    → access_answer t d ≡ Ok tt
    → SameWalk t s (ParentDir ∷ rest) nodes rest under
up_same t s rest d under at allowed =
    subst (λ l. SameWalk t s (ParentDir ∷ rest) l rest under) (sym at)
    (taken_one (λ aim follow slash m.
    ap (λ b. cond b (leg_nodes t s aim follow slash (suc m) rest under) (Ended (suc m) (Stop codes.Access)))
    (bit_set t d allowed)))

pub up_refused : (t : Tree) (s : ℕ) (rest : List Component) (d : ℕ) (under : List ℕ) {nodes : List ℕ} (code : ErrorCode)
    → nodes ≡ d ∷ under → access_answer t d ≡ Err code
    → IsRefused t s (ParentDir ∷ rest) nodes (Code code)
up_refused t s rest d under code at denied =
    let bit = bit_unset t d code denied in
    subst (λ l. IsRefused t s (ParentDir ∷ rest) l (Code code)) (sym at) (record {
      code = code;
      is = refl;
      ends = λ aim follow slash m.
          ap (λ b. cond b (leg_nodes t s aim follow slash (suc m) rest under) (Ended (suc m) (Stop codes.Access))) bit.0
          ∙ ap (λ c. let l : Leg (List ℕ) = Ended (suc m) (Stop c) in l) (sym bit.1);
    })

-- ---- a name in the middle

module _ (t : Tree) (s : ℕ) (name : List ℕ) (next : Component) (rest : List Component) (nodes : List ℕ) where
  abbrev down : Aim → Bool → Bool → ℕ → Leg (List ℕ)
  down aim follow slash m = leg_nodes t s aim follow slash (suc m) (next ∷ rest) (reached t (top s nodes) name ∷ nodes)

  -- by whether it is read, and by the refusal
  abbrev by_name : Aim → Bool → Bool → ℕ → Bool → Option ErrorCode → Leg (List ℕ)
  by_name aim follow slash m reads r =
      cond reads (Linked (suc m) nodes (link_text t (top s nodes) name) (next ∷ rest))
      (unless_refused (suc m) r (down aim follow slash m))

  unread : (aim : Aim) (follow slash : Bool) (m : ℕ) → is_met_link t (top s nodes) name middle_options true ≡ false
      → leg_nodes t s aim follow slash m (Normal name ∷ next ∷ rest) nodes
      ≡ by_name aim follow slash m false (refusal t (OpenAt (top s nodes) name middle_options))
  unread aim follow slash m unmet =
      ap (λ b. by_name aim follow slash m b (refusal t (OpenAt (top s nodes) name middle_options)))
      (middle_to_read t aim follow slash (top s nodes) name false unmet)

  pub down_same : is_met_link t (top s nodes) name middle_options true ≡ false
      → refusal t (OpenAt (top s nodes) name middle_options) ≡ None
      → SameWalk t s (Normal name ∷ next ∷ rest) nodes (next ∷ rest) (reached t (top s nodes) name ∷ nodes)
  down_same unmet none =
      taken_one (λ aim follow slash m. unread aim follow slash m unmet ∙ ap (by_name aim follow slash m false) none)

  pub down_refused : (code : ErrorCode) → is_met_link t (top s nodes) name middle_options true ≡ false
      → refusal t (OpenAt (top s nodes) name middle_options) ≡ Some code
      → IsRefused t s (Normal name ∷ next ∷ rest) nodes (Code code)
  down_refused code unmet is = record {
    code = code;
    is = refl;
    ends = λ aim follow slash m. unread aim follow slash m unmet ∙ ap (by_name aim follow slash m false) is;
  }

  pub down_linked : is_met_link t (top s nodes) name middle_options true ≡ true
      → (aim : Aim) (follow slash : Bool) (m : ℕ)
      → leg_nodes t s aim follow slash m (Normal name ∷ next ∷ rest) nodes
      ≡ Linked (suc m) nodes (link_text t (top s nodes) name) (next ∷ rest)
  down_linked met aim follow slash m =
      ap (λ b. by_name aim follow slash m b (refusal t (OpenAt (top s nodes) name middle_options)))
      (middle_to_read t aim follow slash (top s nodes) name true met)

-- ---- a last name

module _ (t : Tree) (s : ℕ) (aim : Aim) (follow slash : Bool) (m : ℕ) (name : List ℕ) (nodes : List ℕ) where
  abbrev by_last : Bool → Leg (List ℕ)
  by_last reads =
      cond reads (Linked (suc m) nodes (link_text t (top s nodes) name) []) (Ended (suc m) (Name
      (top s nodes) name slash))

  pub last_ended : is_to_be_read t aim follow slash true (top s nodes) name ≡ false
      → leg_nodes t s aim follow slash m (Normal name ∷ []) nodes ≡ Ended (suc m) (Name (top s nodes) name slash)
  last_ended unread = ap by_last unread

  pub last_linked : is_to_be_read t aim follow slash true (top s nodes) name ≡ true
      → leg_nodes t s aim follow slash m (Normal name ∷ []) nodes
      ≡ Linked (suc m) nodes (link_text t (top s nodes) name) []
  last_linked reads = ap by_last reads

-- ---- how many parts are taken

choose : {P : Type 0} (n : ℕ) (b : Bool) (x y : Leg P) → n ≤ taken_by x → n ≤ taken_by y → n ≤ taken_by (cond b x y)
choose n true x y one other = one
choose n false x y one other = other

go_on : {P : Type 0} (n m : ℕ) (r : Option ErrorCode) (x : Leg P) → n ≤ m → n ≤ taken_by x
    → n ≤ taken_by (unless_refused m r x)
go_on n m None x now then = then
go_on n m (Some code) x now then = now

pub taken_most : (t : Tree) (s : ℕ) (aim : Aim) (follow slash : Bool) (m : ℕ) (parts : List Component) (nodes : List ℕ)
    → m ≤ taken_by (leg_nodes t s aim follow slash m parts nodes)
taken_most t s aim follow slash m [] nodes = omega arith
taken_most t s aim follow slash m (RootDir ∷ parts) nodes = omega arith
taken_most t s aim follow slash m (CurDir ∷ parts) nodes =
    omega (arith, taken_most t s aim follow slash (suc m) parts nodes)
taken_most t s aim follow slash m (ParentDir ∷ parts) [] = omega arith
taken_most t s aim follow slash m (ParentDir ∷ parts) (d ∷ nodes) =
    choose m (node_at t d).bits.x _ _ (omega (arith, taken_most t s aim follow slash (suc m) parts nodes)) (omega arith)
taken_most t s aim follow slash m (Normal name ∷ []) nodes =
    choose m (is_to_be_read t aim follow slash true (top s nodes) name) _ _ (omega arith) (omega arith)
taken_most t s aim follow slash m (Normal name ∷ part ∷ parts) nodes =
    choose m (is_to_be_read t aim follow slash false (top s nodes) name) _ _ (omega arith)
    (go_on m (suc m) (refused t aim slash false (top s nodes) name) _ (omega arith)
    (omega (arith, taken_most t s aim follow slash (suc m) (part ∷ parts) (reached t (top s nodes) name ∷ nodes))))

-- a part is taken at least
pub taken_more : (t : Tree) (s : ℕ) (aim : Aim) (follow slash : Bool) (m : ℕ) (part : Component)
    (parts : List Component)
    (nodes : List ℕ)
    → suc m ≤ taken_by (leg_nodes t s aim follow slash m (part ∷ parts) nodes)
taken_more t s aim follow slash m RootDir parts nodes = omega arith
taken_more t s aim follow slash m CurDir parts nodes = taken_most t s aim follow slash (suc m) parts nodes
taken_more t s aim follow slash m ParentDir parts [] = omega arith
taken_more t s aim follow slash m ParentDir parts (d ∷ nodes) =
    choose (suc m) (node_at t d).bits.x _ _ (taken_most t s aim follow slash (suc m) parts nodes) (omega arith)
taken_more t s aim follow slash m (Normal name) [] nodes =
    choose (suc m) (is_to_be_read t aim follow slash true (top s nodes) name) _ _ (omega arith) (omega arith)
taken_more t s aim follow slash m (Normal name) (part ∷ parts) nodes =
    choose (suc m) (is_to_be_read t aim follow slash false (top s nodes) name) _ _ (omega arith)
    (go_on (suc m) (suc m) (refused t aim slash false (top s nodes) name) _ (omega arith)
    (taken_most t s aim follow slash (suc m) (part ∷ parts) (reached t (top s nodes) name ∷ nodes)))

-- and up to a link one more
abbrev pub TakesMore : {P : Type 0} → ℕ → Leg P → Type 0
TakesMore m (Ended taken outcome) = m ≤ taken
TakesMore m (Linked taken position text left) = suc m ≤ taken

by_taken : {P : Type 0} (m : ℕ) (l : Leg P) → suc m ≤ taken_by l → TakesMore m l
by_taken m (Ended taken outcome) more = omega (arith, more)
by_taken m (Linked taken position text left) more = more

pub takes_more : (t : Tree) (s : ℕ) (aim : Aim) (follow slash : Bool) (m : ℕ) (parts : List Component) (nodes : List ℕ)
    → TakesMore m (leg_nodes t s aim follow slash m parts nodes)
takes_more t s aim follow slash m [] nodes = omega arith
takes_more t s aim follow slash m (part ∷ parts) nodes =
    by_taken m (leg_nodes t s aim follow slash m (part ∷ parts) nodes)
    (taken_more t s aim follow slash m part parts nodes)

-- ---- the node on top

pub top_near : (t : Tree) (s : ℕ) (nodes : List ℕ) → AreReached t s nodes → Reached t (s ∷ []) (top s nodes)
top_near t s [] near = at_root t s
top_near t s (n ∷ nodes) near = near.0
