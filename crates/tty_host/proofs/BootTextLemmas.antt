-- From the bytes that were read of a boot text to what the text says.
use Rattle.std.proofs.Common.{◌≡◌, ℕ, true, false, List, ◌++◌, length, refl, sym, ap, ◌∙◌, append-nil, ltb, ltb-true, ltb-false}
use Rattle.user_db.specs.declared.line.TheConstants.{BOOT_TEXT_BYTES}
use Rattle.user_db.specs.Boot.{boot_of}
use Rattle.user_db.proofs.TooLong.{bad_by_prefix}
use Rattle.tty_host.specs.Boots.{Enough}

-- they say as much as the text does
pub enough-says : (read text : List ℕ) → Enough read text → boot_of text ≡ boot_of read
enough-says read text h =
    elim (ltb BOOT_TEXT_BYTES (length read)) as (λ b. ltb BOOT_TEXT_BYTES (length read) ≡ b → boot_of text ≡ boot_of read) [
      | true ↦ λ test.
          let bad = bad_by_prefix read h.rest (ltb-true BOOT_TEXT_BYTES (length read) test) in
          ap boot_of h.whole ∙ bad.of_whole ∙ sym bad.of_prefix
      | false ↦ λ test.
          let none = h.all (ltb-false BOOT_TEXT_BYTES (length read) test) in
          ap boot_of (h.whole ∙ ap (λ rest. read ++ rest) none ∙ append-nil read)
    ] refl
