-- The two numbers of a device by the masks of its bits.
use Rattle.std.proofs.Common.{◌≡◌, ℕ, ◌-◌, ◌*◌, ◌/◌, ◌%◌, ◌^◌, ap, ◌∙◌, lit<}
use Rattle.std.specs.Prelude.{bit_and, bit_or}
use Rattle.std.specs.Int.Bits.{or_shifted_r}
use Rattle.std.proofs.Math.Nat.{div-div-eq-div-mul, mod-lt}
use Rattle.std.proofs.lemmas.Nat.{and_mask}
use Rattle.std.proofs.lemmas.Nat.Bits.{and_high}
use Rattle.unify_apply.specs.Journal.{major_of, minor_of}

pub major_told : (device : ℕ) → bit_or (bit_and (device / 256) 4095) (bit_and (device / 4294967296) 4294963200) ≡ major_of device
major_told device =
    let low : ℕ = device / 2 ^ 8 % 2 ^ 12 in
    ap (λ n. bit_or n (bit_and (device / 2 ^ 32) (2 ^ 32 - 2 ^ 12))) (and_mask (device / 2 ^ 8) 12)
    ∙ ap (λ n. bit_or low n) (and_high (device / 2 ^ 32) 20 12)
    ∙ ap (λ n. bit_or low (n % 2 ^ 20 * 2 ^ 12)) (div-div-eq-div-mul device (2 ^ 32) (2 ^ 12))
    ∙ or_shifted_r (device / 2 ^ 44 % 2 ^ 20) 12 low (mod-lt (device / 2 ^ 8) (lit< tt))

pub minor_told : (device : ℕ) → bit_or (bit_and device 255) (bit_and (device / 4096) 4294967040) ≡ minor_of device
minor_told device =
    let low : ℕ = device % 2 ^ 8 in
    ap (λ n. bit_or n (bit_and (device / 2 ^ 12) (2 ^ 32 - 2 ^ 8))) (and_mask device 8)
    ∙ ap (λ n. bit_or low n) (and_high (device / 2 ^ 12) 24 8)
    ∙ ap (λ n. bit_or low (n % 2 ^ 24 * 2 ^ 8)) (div-div-eq-div-mul device (2 ^ 12) (2 ^ 8))
    ∙ or_shifted_r (device / 2 ^ 20 % 2 ^ 24) 8 low (mod-lt device (lit< tt))
