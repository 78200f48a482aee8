-- A report's text tells the report: the text tells the value's JSON, and that tells each part.
use Rattle.std.proofs.Common.{ℕ, ℤ, pos, negsuc, ◌≤◌, List, [], ◌∷◌, ◌++◌, ◌≡◌, Bool, true, false, cond, if◌then◌else◌, All, Less, Greater, Some, append_assoc, refl, sym, ap, ap₂, ◌∙◌, map, get_or, decimal, arith, codes}
use Rattle.std.specs.Cmp.Lexicographic.{slice_cmp}
use Rattle.std.specs.Fmt.{signed_decimal}
use Rattle.std.specs.List.{AllByRecursion}
use Rattle.std.specs.List.Sorted.{IsStrictlySortedBy}
use Rattle.std.specs.Ordering.{nat_cmp, ordering_reverse}
use Rattle.std.specs.Str.{bytes_eq}
use Rattle.std.specs.Str.Parse.{digits_value}
use Rattle.std.proofs.lemmas.Cmp.{nat_list_cmp_total}
use Rattle.std.proofs.lemmas.List.{append-nil, append_cancel_right}
use Rattle.std.proofs.lemmas.List.Elements.{All-head, All-tail}
use Rattle.std.proofs.lemmas.Fmt.{decimal_injective, decimal_is_IsNumeral, signed_decimal_injective}
use Rattle.hex.specs.Hex.{IsBytes, encode_lower}
use Rattle.hex.proofs.HexLemmas.{decode_of-encode_lower, decode_of-same}
use Rattle.json.specs.Json as json
use Rattle.json.specs.Tree as tree
use Rattle.json.specs.Print.{print}
use Rattle.json.proofs.Printed.Decimals.{IsNumber-decimal, IsNumber-signed_decimal}
use Rattle.json.proofs.Printed.Trees.{document-print}
use Rattle.serde_json.specs.Data.{Data, Members, member, no_members, put}
use Rattle.serde_json.specs.Find.{of_integer}
use Rattle.serde_json.specs.View.{items_of}
use Rattle.serde_json.specs.Written.{number_text, outline, items_outline, members_outline, compact_text}
use Rattle.serde_json.proofs.Texts.{print-outline}
use Rattle.wasi_host.proofs.Times as times
use Rattle.wasi_host.specs.declared.system_time.SystemTime.{SystemTime}
use Rattle.wasi_host.specs.declared.bits.Bits.{Bits}
use Rattle.wasi_tree.specs.NodeData.{NodeData, ContentData, file, directory, link}
use Rattle.wasi_guest.specs.declared.answer.Answer.{Answer}
use Rattle.wasi_guest.specs.declared.answer.Answer.TheVariants as answers
use Rattle.wasi_guest.specs.declared.errno.Errno.{Errno}
use Rattle.wasi_guest.specs.declared.errno.Errno.TheVariants as errno
use Rattle.wasi_guest.specs.declared.answer.TrapKind.{TrapKind}
use Rattle.wasi_guest.specs.declared.answer.TrapKind.TheVariants.{Pointer, TableFull, ExitStatus}
use Rattle.wasi_guest.specs.declared.answer.Value.{Value}
use Rattle.wasi_guest.specs.declared.answer.Value.TheVariants as values
use Rattle.wasi_guest.specs.declared.fdstat.Fdstat.{Fdstat}
use Rattle.wasi_guest.specs.declared.filestat.Filestat.{Filestat}
use Rattle.wasi_guest.specs.Errnos.{errno_name}
use Rattle.wasi_report.specs.Report.{Report, report_value, report_text, list_value, put_all, number_value, fdstat_numbers, filestat_numbers, success_value, trap_name, answer_value, hex_value, node_value, time_value, times_value, content_member, bits_text, bit_letter, outcome_members}
use Rattle.wasi_report.specs.ReadBack.{FitsNumber, FitsValue, FitsAnswer, FitsEntry, FitsContent, FitsTime, FitsNode, IsRising, IsOrdered, ReportsAreDetermined}
use Rattle.wasi_report.specs.Guests.{GuestReport}
use Rattle.wasi_report.specs.GuestsReadBack.{FitsGuest}

-- ---- the JSON of a value has numbers, and is shallow

pub record IsShallow (n : ℕ) (j : json.Json) : Type 0 where
  pub numbers : tree.HasNumbers j
  pub depth : tree.depth j ≤ n

pub record AreShallow (n : ℕ) (js : json.Items) : Type 0 where
  pub numbers : tree.ItemsHaveNumbers js
  pub depth : tree.items_depth js ≤ n

pub record AreMembersShallow (n : ℕ) (ms : json.Members) : Type 0 where
  pub numbers : tree.MembersHaveNumbers ms
  pub depth : tree.members_depth ms ≤ n

abbrev Same : ℕ → ℕ → Type 0
Same m n = m ≡ n

-- two lines with the texts of such values are one only where the values have one JSON
pub same_outline : (d e : Data) → IsShallow 128 (outline d) → IsShallow 128 (outline e)
    → compact_text d ++ 10 ∷ [] ≡ compact_text e ++ 10 ∷ [] → outline d ≡ outline e
same_outline d e p q lines =
    let texts : compact_text d ≡ compact_text e = append_cancel_right _ _ (10 ∷ []) lines in
    let printed : print (tree.json_tokens (outline d)) ≡ print (tree.json_tokens (outline e)) =
    print-outline d ∙ texts ∙ sym (print-outline e) in
    let documents : Some (outline d) ≡ Some (outline e) =
    sym (document-print (outline d) p.numbers p.depth) ∙ ap json.document printed
    ∙ document-print (outline e) q.numbers q.depth in
    cc

-- ---- values of lists, one after another

pub shallow_list : {A : Type 0} (n : ℕ) (P : A → Type 0) (value_of : A → Data) → ((a : A) → P a → IsShallow n (outline (value_of a)))
    → (items : List A) → All P items → AreShallow n (items_outline (items_of (map value_of items)))
shallow_list n P value_of each [] all = record { numbers = tt; depth = omega arith }
shallow_list n P value_of each (a ∷ items) all =
    let first = each a (All-head P a items all) in
    let rest = shallow_list n P value_of each items (All-tail P a items all) in
    record { numbers = (first.numbers, rest.numbers); depth = omega arith }

pub same_list : {A : Type 0} (P : A → Type 0) (value_of : A → Data) → ((a b : A) → P a → P b → outline (value_of a) ≡ outline (value_of b) → a ≡ b)
    → (xs ys : List A) → All P xs → All P ys → items_outline (items_of (map value_of xs)) ≡ items_outline (items_of (map value_of ys)) → xs ≡ ys
same_list P value_of each [] [] p q e = refl
same_list P value_of each [] (b ∷ ys) p q e = absurd (cc)
same_list P value_of each (a ∷ xs) [] p q e = absurd (cc)
same_list P value_of each (a ∷ xs) (b ∷ ys) p q e =
    let first : outline (value_of a) ≡ outline (value_of b) = cc in
    let rest : items_outline (items_of (map value_of xs)) ≡ items_outline (items_of (map value_of ys)) = cc in
    ap₂ (λ x xs. x ∷ xs) (each a b (All-head P a xs p) (All-head P b ys q) first)
    (same_list P value_of each xs ys (All-tail P a xs p) (All-tail P b ys q) rest)

-- ---- the parts of a JSON value

abbrev pub members_in : json.Json → json.Members
members_in (json.object ms) = ms
members_in _ = json.no_members

abbrev items_in : json.Json → json.Items
items_in (json.array js) = js
items_in _ = json.no_items

-- of a number or a string
abbrev text_in : json.Json → List ℕ
text_in (json.number s) = s
text_in (json.string s) = s
text_in _ = []

abbrev pub after_first : json.Members → json.Members
after_first json.no_members = json.no_members
after_first (json.member k j ms) = ms

abbrev pub items_first : json.Members → json.Items
items_first json.no_members = json.no_items
items_first (json.member k j ms) = items_in j

abbrev pub value_first : json.Members → json.Json
value_first json.no_members = json.null
value_first (json.member k j ms) = j

abbrev pub text_first : json.Members → List ℕ
text_first json.no_members = []
text_first (json.member k j ms) = text_in j

-- ---- numbers, bytes and names

pub same_number : (m n : ℕ) → FitsNumber m → FitsNumber n → outline (number_value m) ≡ outline (number_value n) → m ≡ n
same_number m n p q e = let text : decimal m ≡ decimal n = cc in decimal_injective m n p q text

pub shallow_number : (n : ℕ) → FitsNumber n → IsShallow 0 (outline (number_value n))
shallow_number n fits = record { numbers = IsNumber-decimal n fits; depth = omega arith }

same_bytes : (xs ys : List ℕ) → IsBytes xs → IsBytes ys → encode_lower xs ≡ encode_lower ys → xs ≡ ys
same_bytes xs ys p q e = decode_of-same (encode_lower xs) xs ys (decode_of-encode_lower xs p) (rw e (decode_of-encode_lower ys q))

same_hex : (xs ys : List ℕ) → IsBytes xs → IsBytes ys → outline (hex_value xs) ≡ outline (hex_value ys) → xs ≡ ys
same_hex xs ys p q e = let text : encode_lower xs ≡ encode_lower ys = cc in same_bytes xs ys p q text

abbrev all_errnos : List Errno
all_errnos =
    errno.Acces ∷ errno.Again ∷ errno.Already ∷ errno.Badf ∷ errno.Busy ∷ errno.Deadlk ∷ errno.Dquot ∷ errno.Exist
    ∷ errno.Fbig ∷ errno.Ilseq ∷ errno.Inprogress ∷ errno.Intr ∷ errno.Inval ∷ errno.Io ∷ errno.Isdir ∷ errno.Loop
    ∷ errno.Mlink ∷ errno.Msgsize ∷ errno.Nametoolong ∷ errno.Nodev ∷ errno.Noent ∷ errno.Nolck ∷ errno.Nomem
    ∷ errno.Nospc ∷ errno.Notdir ∷ errno.Notempty ∷ errno.Notrecoverable ∷ errno.Notsock ∷ errno.Notsup ∷ errno.Notty
    ∷ errno.Nxio ∷ errno.Overflow ∷ errno.Perm ∷ errno.Pipe ∷ errno.Rofs ∷ errno.Spipe ∷ errno.Txtbsy ∷ errno.Xdev ∷ []

-- the first of these that has this name, or else the other
abbrev named : {A : Type 0} → (A → List ℕ) → A → List A → List ℕ → A
named name_of other [] name = other
named name_of other (a ∷ more) name = cond (bytes_eq (name_of a) name) a (named name_of other more name)

abbrev errno_named : List ℕ → Errno
errno_named name = named errno_name errno.Io all_errnos name

named-errno_name : (e : Errno) → errno_named (errno_name e) ≡ e
named-errno_name errno.Acces = refl
named-errno_name errno.Again = refl
named-errno_name errno.Already = refl
named-errno_name errno.Badf = refl
named-errno_name errno.Busy = refl
named-errno_name errno.Deadlk = refl
named-errno_name errno.Dquot = refl
named-errno_name errno.Exist = refl
named-errno_name errno.Fbig = refl
named-errno_name errno.Ilseq = refl
named-errno_name errno.Inprogress = refl
named-errno_name errno.Intr = refl
named-errno_name errno.Inval = refl
named-errno_name errno.Io = refl
named-errno_name errno.Isdir = refl
named-errno_name errno.Loop = refl
named-errno_name errno.Mlink = refl
named-errno_name errno.Msgsize = refl
named-errno_name errno.Nametoolong = refl
named-errno_name errno.Nodev = refl
named-errno_name errno.Noent = refl
named-errno_name errno.Nolck = refl
named-errno_name errno.Nomem = refl
named-errno_name errno.Nospc = refl
named-errno_name errno.Notdir = refl
named-errno_name errno.Notempty = refl
named-errno_name errno.Notrecoverable = refl
named-errno_name errno.Notsock = refl
named-errno_name errno.Notsup = refl
named-errno_name errno.Notty = refl
named-errno_name errno.Nxio = refl
named-errno_name errno.Overflow = refl
named-errno_name errno.Perm = refl
named-errno_name errno.Pipe = refl
named-errno_name errno.Rofs = refl
named-errno_name errno.Spipe = refl
named-errno_name errno.Txtbsy = refl
named-errno_name errno.Xdev = refl

abbrev trap_named : List ℕ → TrapKind
trap_named name = named trap_name Pointer (Pointer ∷ TableFull ∷ ExitStatus ∷ []) name

named-trap_name : (kind : TrapKind) → trap_named (trap_name kind) ≡ kind
named-trap_name Pointer = refl
named-trap_name TableFull = refl
named-trap_name ExitStatus = refl

-- ---- answers, read back from their JSON

shallow_value : (v : Value) → FitsValue v → IsShallow 1 (outline (success_value v))
shallow_value values.Unit fits = record { numbers = tt; depth = omega arith }
shallow_value (values.Number n) fits = let inside = shallow_number n fits in record { numbers = inside.numbers; depth = omega arith }
shallow_value (values.Pair first second) fits =
    let inside = shallow_list 0 FitsNumber number_value shallow_number (first ∷ second ∷ []) fits in
    record { numbers = inside.numbers; depth = omega arith }
shallow_value (values.Fdstat stat) fits =
    let inside = shallow_list 0 FitsNumber number_value shallow_number (fdstat_numbers stat) fits in
    record { numbers = inside.numbers; depth = omega arith }
shallow_value (values.Filestat stat) fits =
    let inside = shallow_list 0 FitsNumber number_value shallow_number (filestat_numbers stat) fits in
    record { numbers = inside.numbers; depth = omega arith }

abbrev number_back : json.Json → ℕ
number_back j = digits_value 10 (text_in j)

number_is_back : (n : ℕ) → FitsNumber n → number_back (outline (number_value n)) ≡ n
number_is_back n fits = (decimal_is_IsNumeral n fits).1

abbrev numbers_back : json.Items → List ℕ
numbers_back json.no_items = []
numbers_back (json.item j js) = number_back j ∷ numbers_back js

numbers_are_back : (ns : List ℕ) → All FitsNumber ns → numbers_back (items_outline (items_of (map number_value ns))) ≡ ns
numbers_are_back [] fits = refl
numbers_are_back (n ∷ ns) fits =
    ap₂ (λ m ms. m ∷ ms) (number_is_back n (All-head FitsNumber n ns fits)) (numbers_are_back ns (All-tail FitsNumber n ns fits))

-- the record with these fields
abbrev fdstat_of : List ℕ → Fdstat
fdstat_of ns = record { filetype = get_or ns 0 0; flags = get_or ns 1 0; base = get_or ns 2 0; inheriting = get_or ns 3 0 }

-- the record with these fields
abbrev filestat_of : List ℕ → Filestat
filestat_of ns = record {
  dev = get_or ns 0 0;
  ino = get_or ns 1 0;
  filetype = get_or ns 2 0;
  nlink = get_or ns 3 0;
  size = get_or ns 4 0;
  atim = get_or ns 5 0;
  mtim = get_or ns 6 0;
  ctim = get_or ns 7 0;
}

-- by how many there are: a pair's two numbers, or the fields of one record or the other
abbrev listed_back : List ℕ → Value
listed_back (first ∷ second ∷ []) = values.Pair first second
listed_back (type ∷ flags ∷ base ∷ inheriting ∷ []) = values.Fdstat (fdstat_of (type ∷ flags ∷ base ∷ inheriting ∷ []))
listed_back ns = values.Filestat (filestat_of ns)

abbrev value_back : json.Json → Value
value_back (json.number text) = values.Number (digits_value 10 text)
value_back (json.array js) = listed_back (numbers_back js)
value_back _ = values.Unit

value_is_back : (v : Value) → FitsValue v → value_back (outline (success_value v)) ≡ v
value_is_back values.Unit fits = refl
value_is_back (values.Number n) fits = ap values.Number (number_is_back n fits)
value_is_back (values.Pair first second) fits = ap listed_back (numbers_are_back (first ∷ second ∷ []) fits)
value_is_back (values.Fdstat stat) fits = ap listed_back (numbers_are_back (fdstat_numbers stat) fits)
value_is_back (values.Filestat stat) fits = ap listed_back (numbers_are_back (filestat_numbers stat) fits)

shallow_answer : (a : Answer) → FitsAnswer a → IsShallow 2 (outline (answer_value a))
shallow_answer (answers.Ok v) fits =
    let inside = shallow_value v fits in record { numbers = (inside.numbers, tt); depth = omega arith }
shallow_answer (answers.Errno e) fits = record { numbers = (tt, tt); depth = omega arith }
shallow_answer (answers.Trap kind) fits = record { numbers = (tt, tt); depth = omega arith }
shallow_answer (answers.Exit status) fits =
    let inside = shallow_number status fits in record { numbers = (inside.numbers, tt); depth = omega arith }

-- the answer with this value under this key
abbrev answer_under : List ℕ → json.Json → Answer
answer_under key j =
    if bytes_eq key (codes "ok") then answers.Ok (value_back j)
    else if bytes_eq key (codes "errno") then answers.Errno (errno_named (text_in j))
    else if bytes_eq key (codes "trap") then answers.Trap (trap_named (text_in j))
    else answers.Exit (number_back j)

abbrev answer_back : json.Members → Answer
answer_back json.no_members = answers.Ok values.Unit
answer_back (json.member key j others) = answer_under key j

answer_is_back : (a : Answer) → FitsAnswer a → answer_back (members_in (outline (answer_value a))) ≡ a
answer_is_back (answers.Ok v) fits = ap answers.Ok (value_is_back v fits)
answer_is_back (answers.Errno e) fits = ap answers.Errno (named-errno_name e)
answer_is_back (answers.Trap kind) fits = ap answers.Trap (named-trap_name kind)
answer_is_back (answers.Exit status) fits = ap answers.Exit (number_is_back status fits)

same_answer : (a b : Answer) → FitsAnswer a → FitsAnswer b → outline (answer_value a) ≡ outline (answer_value b) → a ≡ b
same_answer a b p q e = sym (answer_is_back a p) ∙ ap (λ j. answer_back (members_in j)) e ∙ answer_is_back b q

-- ---- bits and times

same_letter : (letter : ℕ) (x y : Bool) → (letter ≡ 45 → ⊥) → bit_letter letter x ≡ bit_letter letter y → x ≡ y
same_letter letter true true other e = refl
same_letter letter true false other e = absurd (other e)
same_letter letter false true other e = absurd (other (sym e))
same_letter letter false false other e = refl

same_bits : (a b : Bits) → bits_text a ≡ bits_text b → a ≡ b
same_bits a b e =
    let r_text : bit_letter 114 a.r ≡ bit_letter 114 b.r = cc in
    let w_text : bit_letter 119 a.w ≡ bit_letter 119 b.w = cc in
    let x_text : bit_letter 120 a.x ≡ bit_letter 120 b.x = cc in
    let make : Bool → Bool → Bool → Bits = λ r w x. record { r = r; w = w; x = x } in
    ap (λ r. make r a.w a.x) (same_letter 114 a.r b.r (λ h. omega arith) r_text) ∙ ap (λ w. make b.r w a.x) (same_letter 119 a.w b.w (λ h. omega arith) w_text)
    ∙ ap (make b.r b.w) (same_letter 120 a.x b.x (λ h. omega arith) x_text)

integer_text : (z : ℤ) → number_text (of_integer z) ≡ signed_decimal z
integer_text (pos n) = refl
integer_text (negsuc n) = refl

shallow_time : (t : SystemTime) → FitsTime t → IsShallow 1 (outline (time_value t))
shallow_time t fits = record {
  numbers = (rw integer_text (IsNumber-signed_decimal t.seconds fits.seconds), (IsNumber-decimal t.nanoseconds fits.nanoseconds, tt));
  depth = omega arith;
}

encoded_time : (s t : SystemTime) → FitsTime s → FitsTime t → outline (time_value s) ≡ outline (time_value t) → s ≡ t
encoded_time s t p q e =
    let seconds_text : number_text (of_integer s.seconds) ≡ number_text (of_integer t.seconds) = cc in
    let nanoseconds_text : decimal s.nanoseconds ≡ decimal t.nanoseconds = cc in
    times.same_time s t
    (signed_decimal_injective s.seconds t.seconds p.seconds q.seconds (sym (integer_text s.seconds) ∙ seconds_text ∙ integer_text t.seconds))
    (decimal_injective s.nanoseconds t.nanoseconds p.nanoseconds q.nanoseconds nanoseconds_text)

-- ---- a directory whose names rise

abbrev pub Entries : Type 0
Entries = List (List ℕ × ℕ)

abbrev pub in_order : Entries → Members
in_order [] = no_members
in_order (e ∷ es) = member e.0 (number_value e.1) (in_order es)

below_middle : (name : List ℕ) (done : Entries) (e : List ℕ × ℕ) (more : Entries)
    → AllByRecursion (λ y. slice_cmp nat_cmp name y ≡ Less) (map (λ e. e.0) (done ++ e ∷ more)) → slice_cmp nat_cmp name e.0 ≡ Less
below_middle name [] e more h = h.0
below_middle name (x ∷ done) e more h = below_middle name done e more h.1

put_last : (done : Entries) (e : List ℕ × ℕ) (more : Entries) → IsRising (done ++ e ∷ more) → put e.0 (number_value e.1) (in_order done) ≡ in_order (done ++ e ∷ [])
unfolding IsStrictlySortedBy
put_last [] e more h = refl
put_last (first ∷ done) e more h =
    let above : slice_cmp nat_cmp e.0 first.0 ≡ Greater = nat_list_cmp_total.antisymm e.0 first.0 ∙ ap ordering_reverse (below_middle first.0 done e more h.0) in
    rw above (ap (member first.0 (number_value first.1)) (put_last done e more h.1))

put_after : (done more : Entries) → IsRising (done ++ more) → put_all more (in_order done) ≡ in_order (done ++ more)
put_after done [] h = ap in_order (sym (append-nil done))
put_after done (e ∷ more) h =
    ap (put_all more) (put_last done e more h) ∙ put_after (done ++ e ∷ []) more (rw append_assoc h) ∙ ap in_order (append_assoc done (e ∷ []) more)

pub put_rising : (entries : Entries) → IsRising entries → put_all entries no_members ≡ in_order entries
put_rising entries h = put_after [] entries h

shallow_entries : (entries : Entries) → All FitsEntry entries → AreMembersShallow 0 (members_outline (in_order entries))
shallow_entries [] fits = record { numbers = tt; depth = omega arith }
shallow_entries (e ∷ es) fits =
    let rest = shallow_entries es (All-tail FitsEntry e es fits) in
    record { numbers = (IsNumber-decimal e.1 (All-head FitsEntry e es fits), rest.numbers); depth = omega arith }

same_entries : (xs ys : Entries) → All FitsEntry xs → All FitsEntry ys
    → members_outline (in_order xs) ≡ members_outline (in_order ys) → xs ≡ ys
same_entries [] [] p q e = refl
same_entries [] (y ∷ ys) p q e = absurd (cc)
same_entries (x ∷ xs) [] p q e = absurd (cc)
same_entries (x ∷ xs) (y ∷ ys) p q e =
    let name : x.0 ≡ y.0 = cc in
    let text : decimal x.1 ≡ decimal y.1 = cc in
    let rest : members_outline (in_order xs) ≡ members_outline (in_order ys) = cc in
    let make : List ℕ → ℕ → List ℕ × ℕ = λ k n. (k, n) in
    ap₂ (λ z zs. z ∷ zs) (ap₂ make name (decimal_injective x.1 y.1 (All-head FitsEntry x xs p) (All-head FitsEntry y ys q) text))
    (same_entries xs ys (All-tail FitsEntry x xs p) (All-tail FitsEntry y ys q) rest)

-- ---- nodes

shallow_content : (c : ContentData) (ms : Members) → FitsContent c → AreMembersShallow 2 (members_outline ms) → AreMembersShallow 2 (members_outline (content_member c ms))
shallow_content (file bytes) ms fits others = record { numbers = (tt, others.numbers); depth = omega arith }
shallow_content (directory entries) ms fits others =
    let inside : AreMembersShallow 0 (members_outline (put_all entries no_members)) = rw (put_rising entries fits.0) (shallow_entries entries fits.1) in
    record { numbers = (inside.numbers, others.numbers); depth = omega arith }
shallow_content (link text) ms fits others = record { numbers = (tt, others.numbers); depth = omega arith }

same_content : (c d : ContentData) (ms ns : Members) → FitsContent c → FitsContent d → members_outline (content_member c ms) ≡ members_outline (content_member d ns)
    → (c ≡ d) × (members_outline ms ≡ members_outline ns)
same_content (file xs) (file ys) ms ns p q e =
    let text : encode_lower xs ≡ encode_lower ys = cc in
    let rest : members_outline ms ≡ members_outline ns = cc in
    (ap file (same_bytes xs ys p q text), rest)
same_content (file xs) (directory ys) ms ns p q e = let first : Same 102 100 = cc in absurd (omega arith)
same_content (file xs) (link ys) ms ns p q e = let first : Same 102 108 = cc in absurd (omega arith)
same_content (directory xs) (file ys) ms ns p q e = let first : Same 100 102 = cc in absurd (omega arith)
same_content (directory xs) (directory ys) ms ns p q e =
    let inside : members_outline (put_all xs no_members) ≡ members_outline (put_all ys no_members) = cc in
    let rest : members_outline ms ≡ members_outline ns = cc in
    let rising = rw (put_rising xs p.0, put_rising ys q.0) at inside in
    (ap directory (same_entries xs ys p.1 q.1 rising), rest)
same_content (directory xs) (link ys) ms ns p q e = let first : Same 100 108 = cc in absurd (omega arith)
same_content (link xs) (file ys) ms ns p q e = let first : Same 108 102 = cc in absurd (omega arith)
same_content (link xs) (directory ys) ms ns p q e = let first : Same 108 100 = cc in absurd (omega arith)
same_content (link xs) (link ys) ms ns p q e =
    let text : xs ≡ ys = cc in
    let rest : members_outline ms ≡ members_outline ns = cc in
    (ap link text, rest)

pub shallow_node : (g : NodeData) → FitsNode g → IsShallow 3 (outline (node_value g))
shallow_node g fits =
    let accessed = shallow_time g.atime fits.times.atime in
    let modified = shallow_time g.mtime fits.times.mtime in
    let created = shallow_time g.btime fits.times.btime in
    let times : AreMembersShallow 2 (members_outline (member (codes "times") (times_value g) no_members)) =
    record { numbers = ((accessed.numbers, (modified.numbers, (created.numbers, tt))), tt); depth = omega arith } in
    let content = shallow_content g.content _ fits.content times in
    record { numbers = (tt, content.numbers); depth = omega arith }

pub same_node : (a b : NodeData) → FitsNode a → FitsNode b → outline (node_value a) ≡ outline (node_value b) → a ≡ b
same_node a b p q e =
    let letters : bits_text a.bits ≡ bits_text b.bits = cc in
    let times_of : NodeData → Members = λ g. member (codes "times") (times_value g) no_members in
    let inside : members_outline (content_member a.content (times_of a)) ≡ members_outline (content_member b.content (times_of b)) = cc in
    let parts = same_content a.content b.content (times_of a) (times_of b) p.content q.content inside in
    let times : members_outline (times_of a) ≡ members_outline (times_of b) = parts.1 in
    let accessed : outline (time_value a.atime) ≡ outline (time_value b.atime) = cc in
    let modified : outline (time_value a.mtime) ≡ outline (time_value b.mtime) = cc in
    let created : outline (time_value a.btime) ≡ outline (time_value b.btime) = cc in
    let make : ContentData → Bits → SystemTime → SystemTime → SystemTime → NodeData = λ c bits s t u. record { content = c; bits = bits; atime = s; mtime = t; btime = u } in
    ap (λ c. make c a.bits a.atime a.mtime a.btime) parts.0
    ∙ ap (λ bits. make b.content bits a.atime a.mtime a.btime) (same_bits a.bits b.bits letters)
    ∙ ap (λ t. make b.content b.bits t a.mtime a.btime) (encoded_time a.atime b.atime p.times.atime q.times.atime accessed)
    ∙ ap (λ t. make b.content b.bits b.atime t a.btime) (encoded_time a.mtime b.mtime p.times.mtime q.times.mtime modified)
    ∙ ap (make b.content b.bits b.atime b.mtime) (encoded_time a.btime b.btime p.times.btime q.times.btime created)

-- ---- what came of a run or of a guest

-- the JSON of a list
abbrev pub list_json : {A : Type 0} → (A → Data) → List A → json.Items
list_json value_of items = items_outline (items_of (map value_of items))

-- the JSON of what came of a guest, before other members
abbrev pub outcome_json : GuestReport → Members → json.Members
outcome_json g others = members_outline (outcome_members g.answers g.memory g.stderr g.stdout others)

pub shallow_outcome : (g : GuestReport) (others : Members) → FitsGuest g → AreMembersShallow 4 (members_outline others)
    → AreMembersShallow 4 (outcome_json g others)
shallow_outcome g others fits rest =
    let answers = shallow_list 2 FitsAnswer answer_value shallow_answer g.answers fits.0 in
    let memory = shallow_list 0 IsBytes hex_value (λ bytes fits. record { numbers = tt; depth = omega arith }) g.memory fits.1 in
    record { numbers = (answers.numbers, (memory.numbers, (tt, (tt, rest.numbers)))); depth = omega arith }

pub same_outcome : (a b : GuestReport) (ms ns : Members) → FitsGuest a → FitsGuest b → outcome_json a ms ≡ outcome_json b ns
    → (a ≡ b) × (members_outline ms ≡ members_outline ns)
same_outcome a b ms ns p q e =
    let from_memory = ap after_first e in
    let from_stderr = ap after_first from_memory in
    let from_stdout = ap after_first from_stderr in
    let answers : list_json answer_value a.answers ≡ list_json answer_value b.answers = ap items_first e in
    let memory : list_json hex_value a.memory ≡ list_json hex_value b.memory = ap items_first from_memory in
    let stderr : encode_lower a.stderr ≡ encode_lower b.stderr = ap text_first from_stderr in
    let stdout : encode_lower a.stdout ≡ encode_lower b.stdout = ap text_first from_stdout in
    let make : List Answer → List (List ℕ) → List ℕ → List ℕ → GuestReport =
    λ answers memory stderr stdout. record { answers = answers; memory = memory; stderr = stderr; stdout = stdout } in (
      ap (λ x. make x a.memory a.stderr a.stdout) (same_list FitsAnswer answer_value same_answer a.answers b.answers p.0 q.0 answers)
          ∙ ap (λ x. make b.answers x a.stderr a.stdout) (same_list IsBytes hex_value same_hex a.memory b.memory p.1 q.1 memory)
          ∙ ap (λ x. make b.answers b.memory x a.stdout) (same_bytes a.stderr b.stderr p.2 q.2 stderr)
          ∙ ap (make b.answers b.memory b.stderr) (same_bytes a.stdout b.stdout p.3 q.3 stdout),
      ap after_first from_stdout,
    )

-- ---- reports

abbrev outcome_of : Report → GuestReport
outcome_of r = record { answers = r.answers; memory = r.memory; stderr = r.stderr; stdout = r.stdout }

-- the members after what came of the run
abbrev pub last_members : Report → Members
last_members r =
    member (codes "touched") (list_value number_value r.touched) (member (codes "tree") (list_value node_value r.tree) no_members)

pub shallow_report : (r : Report) → IsOrdered r → IsShallow 127 (outline (report_value r))
unfolding IsOrdered
shallow_report r h =
    let touched = shallow_list 0 FitsNumber number_value shallow_number r.touched h.4 in
    let nodes = shallow_list 3 FitsNode node_value shallow_node r.tree h.5 in
    let last : AreMembersShallow 4 (members_outline (last_members r)) =
    record { numbers = (touched.numbers, (nodes.numbers, tt)); depth = omega arith } in
    let all = shallow_outcome (outcome_of r) (last_members r) (h.0, h.1, h.2, h.3) last in
    record { numbers = all.numbers; depth = omega arith }

pub same_report : (a b : Report) → IsOrdered a → IsOrdered b → outline (report_value a) ≡ outline (report_value b) → a ≡ b
unfolding IsOrdered
same_report a b p q e =
    let parts =
    same_outcome (outcome_of a) (outcome_of b) (last_members a) (last_members b) (p.0, p.1, p.2, p.3) (q.0, q.1, q.2, q.3) (ap members_in e) in
    let from_touched : members_outline (last_members a) ≡ members_outline (last_members b) = parts.1 in
    let touched : list_json number_value a.touched ≡ list_json number_value b.touched = ap items_first from_touched in
    let nodes : list_json node_value a.tree ≡ list_json node_value b.tree = ap items_first (ap after_first from_touched) in
    let make : GuestReport → List ℕ → List NodeData → Report = λ o touched tree.
    record { answers = o.answers; memory = o.memory; stderr = o.stderr; stdout = o.stdout; touched = touched; tree = tree } in
    ap (λ o. make o a.touched a.tree) parts.0
    ∙ ap (λ x. make (outcome_of b) x a.tree) (same_list FitsNumber number_value same_number a.touched b.touched p.4 q.4 touched)
    ∙ ap (make (outcome_of b) b.touched) (same_list FitsNode node_value same_node a.tree b.tree p.5 q.5 nodes)

pub determined : ReportsAreDetermined
unfolding report_text
determined a b p q e =
    same_report a b p q (same_outline (report_value a) (report_value b) (deeper (shallow_report a p)) (deeper (shallow_report b q)) e)
  where
    deeper : {j : json.Json} → IsShallow 127 j → IsShallow 128 j
    deeper shallow = record { numbers = shallow.numbers; depth = omega (arith, shallow.depth) }
