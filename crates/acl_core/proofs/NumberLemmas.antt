-- Numbers in decimal, as they are read digit by digit.
use Rattle.std.proofs.Common.{◌≡◌, ℕ, ◌+◌, ◌-◌, ◌/◌, ◌%◌, ◌^◌, ◌<◌, ◌≤◌, ◌⊎◌, inl, inr, true, false, eqb, ltb, List, [], ◌∷◌, ◌++◌, Option, Some, None, Result, Ok, Err, refl, sym, ap, subst, ◌∙◌, append_assoc, arith}
use Rattle.std.specs.Prelude.{codes}
use Rattle.std.specs.Char.{is_ascii_digit}
use Rattle.std.specs.Fmt.{decimal}
use Rattle.std.proofs.lemmas.Bool.{cases_Bool, cases_lt, and_parts, and_from, eqb-true, eqb-false, ne_eqb, ltb-true, lt-ltb, leb-true, le-leb}
use Rattle.std.proofs.lemmas.Fmt.{decimal_digit, decimal_step, decimal_by_steps}
use Rattle.acl_core.specs.Reading.{◌>>=◌, byte_at, with_digit, digits_at, number_at, numbered_at, stop_at}
use Rattle.acl_core.specs.declared.fault.Stop.{Stop}
use Rattle.acl_core.proofs.ReaderLemmas.{FaultIn, Reads, bind_ok, bind_err, byte_found, byte_differs, byte_missing}

-- a digit is between 48 and 57
digit_range : (b : ℕ) → is_ascii_digit b ≡ true → (48 ≤ b) × (b ≤ 57)
digit_range b h = let both = and_parts _ _ h in (leb-true _ _ both.0, leb-true _ _ both.1)

-- one digit more
decimal_with : (n b : ℕ) → 1 ≤ n → is_ascii_digit b ≡ true → with_digit n b < 2 ^ 32 → decimal (with_digit n b) ≡ decimal n ++ b ∷ []
decimal_with n b some digit below =
    let range = digit_range b digit in
    let m = with_digit n b in
    let front : m / 10 ≡ n = omega arith in
    let last : 48 + m % 10 ≡ b = omega arith in
    decimal_step m (omega arith) (omega arith) ∙ rw (front, last) refl

-- no digit comes first
abbrev pub NoDigit : List ℕ → Type 0
NoDigit bytes = (b : ℕ) (rest : List ℕ) → bytes ≡ b ∷ rest → is_ascii_digit b ≡ false

-- the text of a number with more after it, whose first byte is a digit too many
pub record Overflows (text : List ℕ) (stop : Stop) : Type 0 where
  pub n : ℕ
  pub b : ℕ
  pub back : List ℕ
  pub some : 1 ≤ n
  pub fits : n < 2 ^ 32
  pub parts : text ≡ decimal n ++ b ∷ back
  pub place : stop_at (b ∷ back) ≡ stop
  pub digit : is_ascii_digit b ≡ true
  pub much : ltb (with_digit n b) (2 ^ 32) ≡ false

-- a text begins with a number of 32 bits, which ends there
pub record Number (text : List ℕ) (n : ℕ) (rest : List ℕ) : Type 0 where
  pub parts : text ≡ decimal n ++ rest
  pub fits : n < 2 ^ 32
  pub ends : 1 ≤ n → NoDigit rest

-- the digits that are read are those of the number
digits_found : (m : ℕ) (bytes : List ℕ) (n : ℕ) (rest : List ℕ) → 1 ≤ m → m < 2 ^ 32 → digits_at m bytes ≡ Ok (n, rest) → Number (decimal m ++ bytes) n rest
unfolding digits_at
digits_found m [] n rest some fits e =
    let same : ◌≡◌ {A = ℕ × List ℕ} (m, []) (n, rest) = cc in
    subst (λ (x : ℕ × List ℕ). Number (decimal m ++ []) x.0 x.1) same (record { parts = refl; fits = fits; ends = λ _ b others is. absurd cc })
digits_found m (b ∷ bytes) n rest some fits e =
    elim (cases_Bool (is_ascii_digit b)) [
      | inl digit ↦ elim (cases_Bool (ltb (with_digit m b) (2 ^ 32))) [
        | inl below ↦
            let on : digits_at (with_digit m b) bytes ≡ Ok (n, rest) = rw (digit, below) at e in
            let range = digit_range b digit in
            let lt = ltb-true _ _ below in
            let f = digits_found (with_digit m b) bytes n rest (omega arith) lt on in
            let joined : decimal (with_digit m b) ++ bytes ≡ decimal m ++ b ∷ bytes =
            ap (λ xs. xs ++ bytes) (decimal_with m b some digit lt) ∙ append_assoc (decimal m) (b ∷ []) bytes in
            record { parts = sym joined ∙ f.parts; fits = f.fits; ends = f.ends }
        | inr much ↦ let is : ◌≡◌ {A = Result (ℕ × List ℕ) Stop} (Err (stop_at (b ∷ bytes))) (Ok (n, rest)) = rw (digit, much) at e in absurd cc
      ]
      | inr other ↦
          let is : ◌≡◌ {A = Result (ℕ × List ℕ) Stop} (Ok (m, b ∷ bytes)) (Ok (n, rest)) = rw other at e in
          let same : ◌≡◌ {A = ℕ × List ℕ} (m, b ∷ bytes) (n, rest) = cc in
          subst (λ (x : ℕ × List ℕ). Number (decimal m ++ b ∷ bytes) x.0 x.1) same
          (record { parts = refl; fits = fits; ends = λ _ c others is. let head : b ≡ c = cc in subst (λ x. is_ascii_digit x ≡ false) head other })
    ]

-- where digits have a fault, one is too many
digits_fault : (m : ℕ) (bytes : List ℕ) (stop : Stop) → 1 ≤ m → m < 2 ^ 32 → digits_at m bytes ≡ Err stop → Overflows (decimal m ++ bytes) stop
unfolding digits_at
digits_fault m [] stop some fits e = absurd cc
digits_fault m (b ∷ bytes) stop some fits e =
    elim (cases_Bool (is_ascii_digit b)) [
      | inl digit ↦ elim (cases_Bool (ltb (with_digit m b) (2 ^ 32))) [
        | inl below ↦
            let on : digits_at (with_digit m b) bytes ≡ Err stop = rw (digit, below) at e in
            let range = digit_range b digit in
            let lt = ltb-true _ _ below in
            let joined : decimal (with_digit m b) ++ bytes ≡ decimal m ++ b ∷ bytes =
            ap (λ xs. xs ++ bytes) (decimal_with m b some digit lt) ∙ append_assoc (decimal m) (b ∷ []) bytes in
            subst (λ xs. Overflows xs stop) joined (digits_fault (with_digit m b) bytes stop (omega arith) lt on)
        | inr much ↦
            let is : ◌≡◌ {A = Result (ℕ × List ℕ) Stop} (Err (stop_at (b ∷ bytes))) (Err stop) = rw (digit, much) at e in
            record { n = m; b = b; back = bytes; some = some; fits = fits; parts = refl; place = cc; digit = digit; much = much }
      ]
      | inr other ↦ let is : ◌≡◌ {A = Result (ℕ × List ℕ) Stop} (Ok (m, b ∷ bytes)) (Err stop) = rw other at e in absurd cc
    ]

-- a byte between 48 and 57 is a digit
is_digit : (b : ℕ) → 48 ≤ b → b ≤ 57 → is_ascii_digit b ≡ true
is_digit b low high = and_from _ _ (le-leb 48 b low) (le-leb b 57 high)

-- a digit goes on with a number
digits_step : (n b : ℕ) (more : List ℕ) → is_ascii_digit b ≡ true → with_digit n b < 2 ^ 32 → digits_at n (b ∷ more) ≡ digits_at (with_digit n b) more
unfolding digits_at
digits_step n b more digit below = rw (digit, lt-ltb (with_digit n b) (2 ^ 32) below) refl

-- a digit too many is a fault
digits_overflow : (n b : ℕ) (more : List ℕ) → is_ascii_digit b ≡ true → ltb (with_digit n b) (2 ^ 32) ≡ false
    → digits_at n (b ∷ more) ≡ Err (stop_at (b ∷ more))
unfolding digits_at
digits_overflow n b more digit much = rw (digit, much) refl

-- a number ends before anything but a digit
digits_stop : (n : ℕ) (bytes : List ℕ) → NoDigit bytes → digits_at n bytes ≡ Ok (n, bytes)
unfolding digits_at
digits_stop n [] none = refl
digits_stop n (b ∷ bytes) none = rw (none b bytes refl) refl

-- a digit but zero begins a number
number_first : (b : ℕ) (more : List ℕ) → 49 ≤ b → b ≤ 57 → number_at (b ∷ more) ≡ digits_at (b - 48) more
unfolding number_at
number_first b more low high =
    let other : eqb b 48 ≡ false = ne_eqb b 48 (λ is. absurd (omega arith)) in
    rw (other, is_digit b (omega arith) high) refl

-- a zero is a number by itself
number_zero : (more : List ℕ) → number_at (decimal 0 ++ more) ≡ Ok (0, more)
unfolding number_at
number_zero more = rw (decimal_digit 0 (omega arith)) refl

-- the digits of a number are read, and reading goes on with it
number_more : (n : ℕ) → 1 ≤ n → n < 2 ^ 32 → (more : List ℕ) → number_at (decimal n ++ more) ≡ digits_at n more
number_more n some fits =
    decimal_by_steps (λ n ds. 1 ≤ n → n < 2 ^ 32 → (more : List ℕ) → number_at (ds ++ more) ≡ digits_at n more)
    (λ n lt some fits more.
    let same : 48 + n - 48 ≡ n = omega arith in
    number_first (48 + n) more (omega arith) (omega arith) ∙ ap (λ m. digits_at m more) same)
    (λ n ds ten before some fits more.
    let d = 48 + n % 10 in
    let same : with_digit (n / 10) d ≡ n = omega arith in
    let below : with_digit (n / 10) d < 2 ^ 32 = omega arith in
    ap number_at (append_assoc ds (d ∷ []) more) ∙ before (omega arith) (omega arith) (d ∷ more)
    ∙ digits_step (n / 10) d more (is_digit d (omega arith) (omega arith)) below ∙ ap (λ m. digits_at m more) same)
    n (omega arith) some fits

-- a number is read again before anything but a digit
number_again : (n : ℕ) (more : List ℕ) → n < 2 ^ 32 → (1 ≤ n → NoDigit more) → number_at (decimal n ++ more) ≡ Ok (n, more)
number_again n more fits ends =
    elim (cases_lt 0 n) [
      | inl some ↦ number_more n (omega arith) fits more ∙ digits_stop n more (ends (omega arith))
      | inr none ↦ let zero_is : n ≡ 0 = omega arith in subst (λ m. number_at (decimal m ++ more) ≡ Ok (m, more)) (sym zero_is) (number_zero more)
    ]

-- what is read is spelled so
number_found : (bytes : List ℕ) (n : ℕ) (rest : List ℕ) → number_at bytes ≡ Ok (n, rest) → Number bytes n rest
unfolding number_at
number_found [] n rest e = absurd cc
number_found (b ∷ bytes) n rest e =
    elim (cases_Bool (eqb b 48)) [
      | inl is_zero ↦
          let is : ◌≡◌ {A = Result (ℕ × List ℕ) Stop} (Ok (0, bytes)) (Ok (n, rest)) = rw is_zero at e in
          let same : ◌≡◌ {A = ℕ × List ℕ} (0, bytes) (n, rest) = cc in
          let head = eqb-true b 48 is_zero in
          subst (λ (x : ℕ × List ℕ). Number (b ∷ bytes) x.0 x.1) same (record {
            parts = rw (decimal_digit 0 (omega arith)) (ap (λ c. c ∷ bytes) head);
            fits = omega arith;
            ends = λ some. absurd (omega arith);
          })
      | inr nonzero ↦ elim (cases_Bool (is_ascii_digit b)) [
        | inl digit ↦
            let on : digits_at (b - 48) bytes ≡ Ok (n, rest) = rw (nonzero, digit) at e in
            let range = digit_range b digit in
            let other = eqb-false b 48 nonzero in
            let f = digits_found (b - 48) bytes n rest (omega arith) (omega arith) on in
            let same : 48 + (b - 48) ≡ b = omega arith in
            let whole : decimal (b - 48) ++ bytes ≡ b ∷ bytes = rw (decimal_digit (b - 48) (omega arith), same) refl in
            record { parts = sym whole ∙ f.parts; fits = f.fits; ends = f.ends }
        | inr other ↦ let is : ◌≡◌ {A = Result (ℕ × List ℕ) Stop} (Err (stop_at (b ∷ bytes))) (Ok (n, rest)) = rw (nonzero, other) at e in absurd cc
      ]
    ]

-- no digit stands where a number begins
pub record NoNumber (text : List ℕ) (stop : Stop) : Type 0 where
  pub place : stop_at text ≡ stop
  pub missing : (b : ℕ) (rest other : List ℕ) → text ≡ b ∷ rest → number_at (b ∷ other) ≡ Err (stop_at (b ∷ other))

-- where a number has its fault
number_fault : (bytes : List ℕ) (stop : Stop) → number_at bytes ≡ Err stop → NoNumber bytes stop ⊎ Overflows bytes stop
unfolding number_at
number_fault [] stop e = inl (record { place = cc; missing = λ b rest other is. absurd cc })
number_fault (b ∷ bytes) stop e =
    elim (cases_Bool (eqb b 48)) [
      | inl is_zero ↦ let is : ◌≡◌ {A = Result (ℕ × List ℕ) Stop} (Ok (0, bytes)) (Err stop) = rw is_zero at e in absurd cc
      | inr nonzero ↦ elim (cases_Bool (is_ascii_digit b)) [
        | inl digit ↦
            let on : digits_at (b - 48) bytes ≡ Err stop = rw (nonzero, digit) at e in
            let range = digit_range b digit in
            let other = eqb-false b 48 nonzero in
            let same : 48 + (b - 48) ≡ b = omega arith in
            let whole : decimal (b - 48) ++ bytes ≡ b ∷ bytes = rw (decimal_digit (b - 48) (omega arith), same) refl in
            inr (subst (λ xs. Overflows xs stop) whole (digits_fault (b - 48) bytes stop (omega arith) (omega arith) on))
        | inr no_digit ↦
            let is : ◌≡◌ {A = Result (ℕ × List ℕ) Stop} (Err (stop_at (b ∷ bytes))) (Err stop) = rw (nonzero, no_digit) at e in
            inl (record {
              place = cc;
              missing =
                  λ c rest other same. let head : b ≡ c = cc in
                  subst (λ x. number_at (x ∷ other) ≡ Err (stop_at (x ∷ other))) head (rw (nonzero, no_digit) refl);
            })
      ]
    ]

-- ---- a number and a colon, or a colon alone

-- the text between `user` or `group` and a permission
abbrev pub qualifier_text : Option ℕ → List ℕ
qualifier_text None = codes ":"
qualifier_text (Some n) = decimal n ++ codes ":"

-- a number of 32 bits, and not nothing
abbrev pub IsNumber : Option ℕ → Type 0
IsNumber None = ⊥
IsNumber (Some n) = n < 2 ^ 32

-- what is read is spelled so
numbered_found : (bytes : List ℕ) (o : Option ℕ) (rest : List ℕ) → numbered_at bytes ≡ Ok (o, rest) → (bytes ≡ qualifier_text o ++ rest) × IsNumber o
unfolding numbered_at
numbered_found bytes o rest e =
    let s = bind_ok (number_at bytes) (λ n. byte_at 58 n.1 >>= λ rest. Ok (Some n.0, rest)) (o, rest) e in
    let r = bind_ok (byte_at 58 s.0.1) (λ rest. Ok (Some s.0.0, rest)) (o, rest) s.2 in
    let same : ◌≡◌ {A = Option ℕ × List ℕ} (Some s.0.0, r.0) (o, rest) = cc in
    let f = number_found bytes s.0.0 s.0.1 s.1 in
    let whole : bytes ≡ (decimal s.0.0 ++ codes ":") ++ r.0 =
    f.parts ∙ ap (λ xs. decimal s.0.0 ++ xs) (byte_found 58 s.0.1 r.0 r.1) ∙ sym (append_assoc (decimal s.0.0) (codes ":") r.0) in
    subst (λ (x : Option ℕ × List ℕ). (bytes ≡ qualifier_text x.0 ++ x.1) × IsNumber x.0) same (whole, f.fits)

-- a colon is no digit
colon_is_no_digit : (more : List ℕ) → NoDigit (58 ∷ more)
colon_is_no_digit more b rest is = let head : 58 ≡ b = cc in subst (λ x. is_ascii_digit x ≡ false) head refl

-- what is spelled so is read
numbered_again : (o : Option ℕ) (rest : List ℕ) → IsNumber o → numbered_at (qualifier_text o ++ rest) ≡ Ok (o, rest)
unfolding numbered_at
numbered_again None rest fits = absurd fits
numbered_again (Some n) rest fits =
    let e : number_at ((decimal n ++ codes ":") ++ rest) ≡ Ok (n, 58 ∷ rest) =
    ap number_at (append_assoc (decimal n) (codes ":") rest) ∙ number_again n (58 ∷ rest) fits (λ _. colon_is_no_digit rest) in
    rw e refl

-- where a number and a colon have their fault
numbered_fault : (bytes : List ℕ) (stop : Stop) → numbered_at bytes ≡ Err stop → FaultIn IsNumber qualifier_text numbered_at bytes stop
unfolding numbered_at
numbered_fault bytes stop e =
    elim (bind_err (number_at bytes) (λ n. byte_at 58 n.1 >>= λ rest. Ok (Some n.0, rest)) stop e) [
      | inl stops ↦ elim (number_fault bytes stop stops) [
        | inl none ↦ record {
          front = [];
          back = bytes;
          parts = refl;
          place = none.place;
          begins = inl refl;
          firm = λ b rest other is. rw (none.missing b rest other is) refl;
        }
        | inr over ↦ record {
          front = decimal over.n;
          back = over.b ∷ over.back;
          parts = over.parts;
          place = over.place;
          begins = inr (Some over.n, codes ":", over.fits, refl);
          firm = λ b rest other is.
              let head : over.b ≡ b = cc in
              let stopped : digits_at over.n (over.b ∷ other) ≡ Err (stop_at (over.b ∷ other)) = digits_overflow over.n over.b other over.digit over.much in
              let whole : number_at (decimal over.n ++ over.b ∷ other) ≡ Err (stop_at (over.b ∷ other)) =
              number_more over.n over.some over.fits (over.b ∷ other) ∙ stopped in
              subst (λ x. numbered_at (decimal over.n ++ x ∷ other) ≡ Err (stop_at (x ∷ other))) head (rw whole refl);
        }
      ]
      | inr goes ↦ elim (bind_err (byte_at 58 goes.0.1) (λ rest. Ok (Some goes.0.0, rest)) stop goes.2) [
        | inl stops ↦
            let f = number_found bytes goes.0.0 goes.0.1 goes.1 in
            let m = byte_missing 58 goes.0.1 stop stops in
            record {
              front = decimal goes.0.0;
              back = goes.0.1;
              parts = f.parts;
              place = m.0;
              begins = inr (Some goes.0.0, codes ":", f.fits, refl);
              firm = λ b rest other is.
                  let ends : 1 ≤ goes.0.0 → NoDigit (b ∷ other) =
                  λ some c others same. let head : b ≡ c = cc in subst (λ x. is_ascii_digit x ≡ false) head (f.ends some b rest is) in
                  rw (number_again goes.0.0 (b ∷ other) f.fits ends, byte_differs 58 b other (m.1 b rest is)) refl;
            }
        | inr never ↦ let is : ◌≡◌ {A = Result (Option ℕ × List ℕ) Stop} (Ok (Some goes.0.0, never.0)) (Err stop) = never.2 in absurd cc
      ]
    ]

-- the reader of a number and a colon
pub numbered_reads : Reads IsNumber qualifier_text numbered_at
numbered_reads = record { takes = numbered_found; again = numbered_again; fault = numbered_fault }
