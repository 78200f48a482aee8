-- The bits of a set that flags were added to or taken from, one after another.
use Rattle.std.proofs.Common.{◌≡◌, ℕ, nat_eq, Bool, true, false, ◌&&◌, [], ◌∷◌, refl, arith, if◌then◌else◌}
use Rattle.std.specs.Int.RustNames.{bit_or}
use Rattle.std.proofs.lemmas.Bool.{and_parts}
use Rattle.std.proofs.lemmas.Bool.Decides.{nat_tests}
use Rattle.bitflags.specs.Sets.{without}
use Rattle.wasi_fs.specs.Calls.{bits_set, change_bit}
use Rattle.wasi_fs.specs.declared.descriptor.Descriptor.{Descriptor}
use Rattle.wasi_fs.specs.declared.descriptor.Descriptor.TheVariants as descriptors

-- a flag is added, or taken away
abbrev pub put : ℕ → ℕ → Bool → ℕ
put set flag is_set = if is_set then bit_or set flag else without 64 set flag

-- a test that both truth values pass, and so each does
abbrev pub of_both : (Bool → Bool) → Bool
of_both p = p true && p false

pub each : (p : Bool → Bool) → of_both p ≡ true → (b : Bool) → p b ≡ true
each p both true = (and_parts (p true) (p false) both).0
each p both false = (and_parts (p true) (p false) both).1

-- the same of four flags
abbrev pub of_four : (Bool → Bool → Bool → Bool → Bool) → Bool
of_four p = of_both (λ a. of_both (λ b. of_both (λ c. of_both (p a b c))))

pub each_of_four : (p : Bool → Bool → Bool → Bool → Bool) → of_four p ≡ true → (a b c d : Bool) → p a b c d ≡ true
each_of_four p all a b c =
    each (p a b c) (each (λ c. of_both (p a b c)) (each (λ b. of_both (λ c. of_both (p a b c)))
    (each (λ a. of_both (λ b. of_both (λ c. of_both (p a b c)))) all a) b) c)

abbrev same_bits : ℕ → Bool → Bool → Bool → Bool → Bool → Bool
same_bits change read write sync dsync rsync =
    nat_eq (put (put (put (put (put 0 1 read) change write) 4 sync) 8 dsync) 16 rsync)
    (bits_set ((read, 1) ∷ (write, change) ∷ (sync, 4) ∷ (dsync, 8) ∷ (rsync, 16) ∷ []))

always_same : (change : ℕ) → of_both (λ read. of_four (same_bits change read)) ≡ true
    → (read write sync dsync rsync : Bool) → same_bits change read write sync dsync rsync ≡ true
always_same change all read = each_of_four (same_bits change read) (each (λ read. of_four (same_bits change read)) all read)

-- the flags of a descriptor, put one after another
pub flags_put : (descriptor : Descriptor) (read write sync dsync rsync : Bool)
    → put (put (put (put (put 0 1 read) (change_bit descriptor) write) 4 sync) 8 dsync) 16 rsync
    ≡ bits_set ((read, 1) ∷ (write, change_bit descriptor) ∷ (sync, 4) ∷ (dsync, 8) ∷ (rsync, 16) ∷ [])
flags_put (descriptors.File file) read write sync dsync rsync =
    let same = always_same 2 refl read write sync dsync rsync in grind (arith, nat_tests)
flags_put (descriptors.Dir dir) read write sync dsync rsync =
    let same = always_same 32 refl read write sync dsync rsync in grind (arith, nat_tests)
