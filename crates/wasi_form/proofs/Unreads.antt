-- What isn't read, passed on.
use Rattle.std.proofs.Common.{◌≡◌, List, Option, None, Result, Ok, Err, subst, sym, ap}
use Rattle.std.specs.Prelude.{IsErrAnd}
use Rattle.json.specs.Json.{parse_map}
use Rattle.json.specs.Token.{Token}
use Rattle.wasi_form.specs.IsRead.{IsRead, IsUnread}
use Rattle.wasi_form.specs.declared.shapes.Unread.{Unread}
use Rattle.wasi_form.specs.declared.shapes.Unread.TheVariants.{Shape, Memory}
use Rattle.wasi_form.proofs.Grammar.{none_made}

-- the exit of a `?`
pub passed_on : {X Y : Type 0} (see : X → Y) (result : Result X Unread) (e : Unread) (defined : Option Y) → IsErrAnd result (λ y. y ≡ e) → IsUnread e defined → IsRead see result defined
passed_on see (Ok x) e defined passed unread = absurd passed
passed_on see (Err y) e defined passed unread = subst (λ (z : Unread). IsUnread z defined) (sym passed) unread

-- where a part has no value, neither has the whole
pub unread_part : {X Y : Type 0} (e : Unread) (part : Option X) (whole : Option Y) → (part ≡ None → whole ≡ None) → IsUnread e part → IsUnread e whole
unread_part Shape part whole none unread = none unread
unread_part Memory part whole none unread = tt

-- the exit of a `?`, where the part and the whole are made of one value
pub unmade : {A X Y Z : Type 0} (see : X → Y × List Token) (result : Result X Unread) (e : Unread) (part : A → Z) (whole : A → Y)
    (read : Option (A × List Token)) → IsErrAnd result (λ y. y ≡ e) → IsUnread e (parse_map part read)
    → IsRead see result (parse_map whole read)
unmade see result e part whole read passed unread =
    passed_on see result e (parse_map whole read) passed
    (unread_part e (parse_map part read) (parse_map whole read) (λ none. ap (parse_map whole) (none_made part read none)) unread)

-- what is read, by another name of what is defined
pub read_as : {X Y : Type 0} (see : X → Y) (result : Result X Unread) (a b : Option Y) → a ≡ b → IsRead see result a → IsRead see result b
read_as {Y = Y} see result a b same read = subst (λ (o : Option Y). IsRead see result o) same read
