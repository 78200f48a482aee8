-- Which values begin with a token.
use Rattle.std.proofs.Common.{◌≡◌, ℕ, zero, suc, List, ◌∷◌, Bool, true, false, Option, Some, None, refl, ap, ◌∙◌, arith}
use Rattle.std.specs.Prelude.{is_some, option_map}
use denote.Ref.{Bor}
use Rattle.json.specs.Json.{parse_map}
use Rattle.json.specs.Reads.{token_of}
use Rattle.json.specs.Token.{Token}
use Rattle.json.specs.declared.token.Token as Read
use Rattle.json.specs.declared.token.Token.TheVariants as tokens
use Rattle.json.proofs.Grammar.{value_is}
use Rattle.serde_json.specs.Data.{Num, Data, null, boolean, number, string, array, object, Items, Members}
use Rattle.serde_json.specs.Find.{as_object, as_array}
use Rattle.serde_json.specs.Read.{number_of, of_json, converted}
use Rattle.wasi_form.specs.Atoms.{flat}
use Rattle.wasi_form.specs.Tokens.{next_value, nothing}
use Rattle.wasi_form.proofs.Grammar.{next_null, next_boolean, next_string, next_number, next_array, next_deep_array, next_object, next_deep_object}

-- a test of the value at the front
abbrev first_is : (Data → Bool) → Option (Data × List Token) → Bool
first_is p None = false
first_is p (Some x) = p x.0

-- a test that holds of no value that begins with a token
record Fails (p : Data → Bool) (t : Read.Token) : Type 0 where
  null : p null ≡ false
  boolean : (b : Bool) → p (boolean b) ≡ false
  number : (n : Num) (text : Bor (List ℕ)) → t ≡ tokens.Number text → p (number n) ≡ false
  string : (s : List ℕ) (text : Bor (List ℕ)) → t ≡ tokens.String text → p (string s) ≡ false
  array : (ds : Items) → t ≡ tokens.BeginArray → p (array ds) ≡ false
  object : (ms : Members) → t ≡ tokens.BeginObject → p (object ms) ≡ false

number_first : (p : Data → Bool) (n : Option Num) (ts : List Token) → ((x : Num) → p (number x) ≡ false)
    → first_is p (option_map (λ x. (number x, ts)) n) ≡ false
number_first p None ts fails = refl
number_first p (Some n) ts fails = fails n

made_first : {A : Type 0} (p : Data → Bool) (make : A → Data) (o : Option (A × List Token))
    → ((a : A) → p (make a) ≡ false)
    → first_is p (parse_map make o) ≡ false
made_first p make None fails = refl
made_first p make (Some x) fails = fails x.0

fails_first : (p : Data → Bool) (depth : ℕ) (t : Read.Token) (ts : List Token) → Fails p t
    → first_is p (next_value depth (token_of t ∷ ts)) ≡ false
fails_first p zero tokens.BeginObject ts fails = ap (first_is p) (next_deep_object zero ts refl)
fails_first p (suc depth) tokens.BeginObject ts fails =
    ap (first_is p) (next_object (suc depth) ts (omega arith)) ∙ made_first p object _ (λ ms. fails.object ms refl)
fails_first p depth tokens.EndObject ts fails =
    ap (λ o. first_is p (converted of_json o)) (value_is depth (Token.end_object ∷ ts))
fails_first p zero tokens.BeginArray ts fails = ap (first_is p) (next_deep_array zero ts refl)
fails_first p (suc depth) tokens.BeginArray ts fails =
    ap (first_is p) (next_array (suc depth) ts (omega arith)) ∙ made_first p array _ (λ ds. fails.array ds refl)
fails_first p depth tokens.EndArray ts fails =
    ap (λ o. first_is p (converted of_json o)) (value_is depth (Token.end_array ∷ ts))
fails_first p depth (tokens.Key k) ts fails =
    ap (λ o. first_is p (converted of_json o)) (value_is depth (Token.key k.now ∷ ts))
fails_first p depth (tokens.String s) ts fails = ap (first_is p) (next_string depth s.now ts) ∙ fails.string s.now s refl
fails_first p depth (tokens.Number s) ts fails =
    ap (first_is p) (next_number depth s.now (number_of s.now) ts refl)
    ∙ number_first p (number_of s.now) ts (λ n. fails.number n s refl)
fails_first p depth (tokens.Bool b) ts fails = ap (first_is p) (next_boolean depth b ts) ∙ fails.boolean b
fails_first p depth tokens.Null ts fails = ap (first_is p) (next_null depth ts) ∙ fails.null
fails_first p depth tokens.Bad ts fails = ap (λ o. first_is p (converted of_json o)) (value_is depth (Token.bad ∷ ts))

none_there : {A : Type 0} (o : Option A) → is_some o ≡ false → o ≡ None
none_there None none = refl
none_there (Some x) none = absurd (cc)

-- a test of lists and objects alone, where the token begins neither that passes
others_fail : (p : Data → Bool) (t : Read.Token) → p null ≡ false → ((b : Bool) → p (boolean b) ≡ false)
    → ((n : Num) → p (number n) ≡ false) → ((s : List ℕ) → p (string s) ≡ false)
    → ((ds : Items) → t ≡ tokens.BeginArray → p (array ds) ≡ false)
    → ((ms : Members) → t ≡ tokens.BeginObject → p (object ms) ≡ false) → Fails p t
others_fail p t nulls booleans numbers strings arrays objects = record {
  null = nulls;
  boolean = booleans;
  number = λ n text begins. numbers n;
  string = λ s text begins. strings s;
  array = arrays;
  object = objects;
}

-- a value that begins otherwise than those of a kind is none of them
other_kind : {A B : Type 0} (of_kind : Data → Option B) (make : Option B → A) (depth : ℕ) (t : Read.Token) (ts r : List Token)
    (d : Data) → Fails (λ v. is_some (of_kind v)) t → next_value depth (token_of t ∷ ts) ≡ Some (d, r)
    → parse_map (λ v. make (of_kind v)) (next_value depth (token_of t ∷ ts)) ≡ Some (make None, r)
other_kind of_kind make depth t ts r d fails is =
    let none = none_there (of_kind d) (rw is at (fails_first (λ v. is_some (of_kind v)) depth t ts fails)) in
    rw is (rw none refl)

pub other_is_no_object : {A : Type 0} (make : Option Members → A) (depth : ℕ) (t : Read.Token) (ts r : List Token) (d : Data)
    → (t ≡ tokens.BeginObject → ⊥) → next_value depth (token_of t ∷ ts) ≡ Some (d, r)
    → parse_map (λ v. make (as_object v)) (next_value depth (token_of t ∷ ts)) ≡ Some (make None, r)
other_is_no_object make depth t ts r d other is =
    other_kind as_object make depth t ts r d
    (others_fail (λ v. is_some (as_object v)) t refl (λ b. refl) (λ n. refl) (λ s. refl) (λ ds begins. refl) (λ ms begins. absurd (other begins)))
    is

pub other_is_no_list : {A : Type 0} (make : Option Items → A) (depth : ℕ) (t : Read.Token) (ts r : List Token) (d : Data)
    → (t ≡ tokens.BeginArray → ⊥) → next_value depth (token_of t ∷ ts) ≡ Some (d, r)
    → parse_map (λ v. make (as_array v)) (next_value depth (token_of t ∷ ts)) ≡ Some (make None, r)
other_is_no_list make depth t ts r d other is =
    other_kind as_array make depth t ts r d
    (others_fail (λ v. is_some (as_array v)) t refl (λ b. refl) (λ n. refl) (λ s. refl) (λ ds begins. absurd (other begins)) (λ ms begins. refl))
    is

-- whether it is a number or a text
abbrev is_atom : Data → Bool
is_atom null = false
is_atom (boolean b) = false
is_atom (number n) = true
is_atom (string s) = true
is_atom (array ds) = false
is_atom (object ms) = false

no_atom : (d : Data) → is_atom d ≡ false → flat d ≡ null
no_atom null other = refl
no_atom (boolean b) other = refl
no_atom (number n) other = absurd (cc)
no_atom (string s) other = absurd (cc)
no_atom (array ds) other = refl
no_atom (object ms) other = refl

-- a value that begins neither as a number nor as a text is none of them
pub other_is_no_atom : (depth : ℕ) (t : Read.Token) (ts r : List Token) (d : Data)
    → ((text : Bor (List ℕ)) → t ≡ tokens.Number text → ⊥) → ((text : Bor (List ℕ)) → t ≡ tokens.String text → ⊥)
    → next_value depth (token_of t ∷ ts) ≡ Some (d, r)
    → parse_map flat (next_value depth (token_of t ∷ ts)) ≡ Some (null, r)
other_is_no_atom depth t ts r d no_number no_string is =
    let first = fails_first is_atom depth t ts (record {
      null = refl;
      boolean = λ b. refl;
      number = λ n text begins. absurd (no_number text begins);
      string = λ s text begins. absurd (no_string text begins);
      array = λ ds begins. refl;
      object = λ ms begins. refl;
    }) in
    let none = no_atom d (rw is at first) in
    rw is (rw none refl)

-- whether a token is a value by itself, and no number
abbrev pub is_lone : Read.Token → Bool
is_lone tokens.BeginObject = false
is_lone tokens.EndObject = false
is_lone tokens.BeginArray = false
is_lone tokens.EndArray = false
is_lone (tokens.Key k) = false
is_lone (tokens.String s) = true
is_lone (tokens.Number s) = false
is_lone (tokens.Bool b) = true
is_lone tokens.Null = true
is_lone tokens.Bad = false

-- such a value is passed with its token
pub lone_passed : (depth : ℕ) (t : Read.Token) (ts : List Token) → is_lone t ≡ true
    → parse_map nothing (next_value depth (token_of t ∷ ts)) ≡ Some (tt, ts)
lone_passed depth tokens.BeginObject ts lone = absurd (cc)
lone_passed depth tokens.EndObject ts lone = absurd (cc)
lone_passed depth tokens.BeginArray ts lone = absurd (cc)
lone_passed depth tokens.EndArray ts lone = absurd (cc)
lone_passed depth (tokens.Key k) ts lone = absurd (cc)
lone_passed depth (tokens.String s) ts lone = ap (parse_map nothing) (next_string depth s.now ts)
lone_passed depth (tokens.Number s) ts lone = absurd (cc)
lone_passed depth (tokens.Bool b) ts lone = ap (parse_map nothing) (next_boolean depth b ts)
lone_passed depth tokens.Null ts lone = ap (parse_map nothing) (next_null depth ts)
lone_passed depth tokens.Bad ts lone = absurd (cc)
