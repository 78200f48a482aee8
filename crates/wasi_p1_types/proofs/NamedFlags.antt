-- What the flag sets of preview2 ask for, by the flags of the same names.
use Rattle.std.proofs.Common.{◌≡◌, ℕ, Bool, true, false, not, ◌||◌, [], ◌∷◌, refl, ap, sym, ◌∙◌}
use Rattle.wasi_fs.specs.Calls.{bits_set}
use Rattle.wasi_fs.specs.OpenFlags.{includes}
use Rattle.wasi_fs.specs.OpenHow.{OpenHow, may_open}
use Rattle.wasi_fs.specs.declared.perms.FsPerms.{FsPerms}
use Rattle.wasi_fs.proofs.Flagging.{of_both, each, of_four, each_of_four}
use Rattle.wasi_p2_types.specs.FlagNames.{how_named}
use Rattle.wasi_p2_types.specs.declared.flags.PathFlags.{PathFlags}
use Rattle.wasi_p2_types.specs.declared.flags.OpenFlags.{OpenFlags}
use Rattle.wasi_p2_types.specs.declared.flags.DescriptorFlags.{DescriptorFlags}
use Rattle.wasi_p2_types.specs.FlagBits.{path_set, open_set, descriptor_set}
use Rattle.wasi_p1_types.specs.SpecParts.{permit}
use Rattle.wasi_p1_types.specs.CallResult.{CallResult}

abbrev same : Bool → Bool → Bool
same true b = b
same false b = not b

same_is : (a b : Bool) → same a b ≡ true → a ≡ b
same_is true true is = refl
same_is true false is = absurd (cc)
same_is false true is = absurd (cc)
same_is false false is = refl

-- of one, of four and of six flags
path_bit : (a : Bool) → includes (bits_set ((a, 1) ∷ [])) 1 ≡ a
path_bit true = refl
path_bit false = refl

abbrev four : Bool → Bool → Bool → Bool → ℕ
four a b c d = bits_set ((a, 1) ∷ (b, 2) ∷ (c, 4) ∷ (d, 8) ∷ [])

abbrev six : Bool → Bool → Bool → Bool → Bool → Bool → ℕ
six a b c d e f = bits_set ((a, 1) ∷ (b, 2) ∷ (c, 4) ∷ (d, 8) ∷ (e, 16) ∷ (f, 32) ∷ [])

abbrev of_six : (Bool → Bool → Bool → Bool → Bool → Bool → Bool) → Bool
of_six p = of_both (λ a. of_both (λ b. of_four (p a b)))

each_of_six : (p : Bool → Bool → Bool → Bool → Bool → Bool → Bool) → of_six p ≡ true → (a b c d e f : Bool)
    → p a b c d e f ≡ true
each_of_six p all a b = each_of_four (p a b) (each (λ b. of_four (p a b)) (each (λ a. of_both (λ b. of_four (p a b))) all a) b)

-- by the bits of the three sets
abbrev pub how_by : PathFlags → OpenFlags → DescriptorFlags → OpenHow
how_by path open_flags flags = record {
  follow = includes (path_set path) 1;
  create = includes (open_set open_flags) 1;
  directory = includes (open_set open_flags) 2;
  exclusive = includes (open_set open_flags) 4;
  truncate = includes (open_set open_flags) 8;
  read = includes (descriptor_set flags) 1;
  write = includes (descriptor_set flags) 2;
  sync = includes (descriptor_set flags) 4 || includes (descriptor_set flags) 8 || includes (descriptor_set flags) 16;
}

pub how_is : (path : PathFlags) (open_flags : OpenFlags) (flags : DescriptorFlags)
    → how_named path open_flags flags ≡ how_by path open_flags flags
how_is path open_flags flags = λ i. record {
  follow = path_bit (includes (path_set path) 1) i;
  create = of_open 1 (λ a b c d. a) refl i;
  directory = of_open 2 (λ a b c d. b) refl i;
  exclusive = of_open 4 (λ a b c d. c) refl i;
  truncate = of_open 8 (λ a b c d. d) refl i;
  read = of_flags 1 (λ a b c d e f. a) refl i;
  write = of_flags 2 (λ a b c d e f. b) refl i;
  sync = of_flags 4 (λ a b c d e f. c) refl i || of_flags 8 (λ a b c d e f. d) refl i || of_flags 16 (λ a b c d e f. e) refl i;
}
  where
    o : ℕ → Bool
    o flag = includes (open_set open_flags) flag

    g : ℕ → Bool
    g flag = includes (descriptor_set flags) flag

    of_open : (flag : ℕ) (its : Bool → Bool → Bool → Bool → Bool)
        → of_four (λ a b c d. same (includes (four a b c d) flag) (its a b c d)) ≡ true
        → includes (four (o 1) (o 2) (o 4) (o 8)) flag ≡ its (o 1) (o 2) (o 4) (o 8)
    of_open flag its all = same_is _ _ (each_of_four (λ a b c d. same (includes (four a b c d) flag) (its a b c d)) all
        (o 1) (o 2) (o 4) (o 8))

    of_flags : (flag : ℕ) (its : Bool → Bool → Bool → Bool → Bool → Bool → Bool)
        → of_six (λ a b c d e f. same (includes (six a b c d e f) flag) (its a b c d e f)) ≡ true
        → includes (six (g 1) (g 2) (g 4) (g 8) (g 16) (g 32)) flag ≡ its (g 1) (g 2) (g 4) (g 8) (g 16) (g 32)
    of_flags flag its all = same_is _ _ (each_of_six (λ a b c d e f. same (includes (six a b c d e f) flag)
        (its a b c d e f)) all (g 1) (g 2) (g 4) (g 8) (g 16) (g 32))

-- so is what is refused of it
pub checked : {result : CallResult (Unit {0})} (path : PathFlags) (open_flags : OpenFlags) (flags : DescriptorFlags) (perms : FsPerms)
    → result ≡ permit (may_open (how_by path open_flags flags) perms)
    → result ≡ permit (may_open (how_named path open_flags flags) perms)
checked path open_flags flags perms is = is ∙ ap (λ how. permit (may_open how perms)) (sym (how_is path open_flags flags))
