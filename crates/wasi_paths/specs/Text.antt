-- Path texts, as the lists of their bytes.
use Rattle.std.specs.Prelude.{ℕ, Bool, not, ◌&&◌, ◌||◌, nat_eq, nat_lt, List, [], length, codes, IsTrue}
use Rattle.std.specs.Str.{bytes_eq, IsUtf8}
use Rattle.std.specs.List.{list_any}

-- it has the byte of `/`
abbrev pub has_slash : List ℕ → Bool
has_slash text = list_any (λ b. nat_eq b 47) text

-- not empty, without a slash, neither `.` nor `..`
abbrev pub is_plain : List ℕ → Bool
is_plain text = not (bytes_eq text []) && not (bytes_eq text (codes ".")) && not (bytes_eq text (codes "..")) && not (has_slash text)

abbrev pub is_dot_text : List ℕ → Bool
is_dot_text text = bytes_eq text (codes ".")

-- the text of a name: `.`, or a plain text
abbrev pub is_name_text : List ℕ → Bool
is_name_text text = is_dot_text text || is_plain text

-- the bytes that a name can have
pub record IsName (text : List ℕ) : Type 0 where
  pub name : IsTrue (is_name_text text)
  pub utf8 : IsUtf8 text

abbrev pub has_nul : List ℕ → Bool
has_nul text = list_any (λ b. nat_eq b 0) text

-- it is longer than a name in a directory can be, which has at most 255 bytes
abbrev pub is_long : List ℕ → Bool
is_long text = nat_lt 255 (length text)

-- a name that a directory may hold: plain, without NUL, of at most 255 bytes
abbrev pub is_entry_name : List ℕ → Bool
is_entry_name name = is_plain name && not (has_nul name) && not (is_long name)
