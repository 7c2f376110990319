-- Flags as the set of those that are on.
use Rattle.std.proofs.Common.{◌≡◌, Bool, true, false, cond, ◌&&◌, ◌||◌, filter, List, [], ◌∷◌, ◌++◌, refl, sym, ap, ◌∙◌}
use Rattle.std.specs.List.{list_any}
use Rattle.std.proofs.lemmas.List.Folds.{list_any-append}
use Rattle.termios_core.specs.declared.flags.Flag.{Flag}
use Rattle.termios_core.specs.declared.flags.Flag.TheVariants.{Istrip, Inlcr, Igncr, Icrnl, Ixon, Opost, Onlcr, Ocrnl, Clocal, Hupcl, Isig, Icanon, Echo, Echoe, Echok, Echonl, Echoctl, Noflsh, Tostop}
use Rattle.termios_core.specs.declared.flags.Flags.{Flags}
use Rattle.termios_core.specs.Flags.{all_flags, is_same, is_on, flags_where, flags_of, with_flag, on_flags}

is_on-flags_where : (test : Flag → Bool) (flag : Flag) → is_on (flags_where test) flag ≡ test flag
is_on-flags_where test Istrip = refl
is_on-flags_where test Inlcr = refl
is_on-flags_where test Igncr = refl
is_on-flags_where test Icrnl = refl
is_on-flags_where test Ixon = refl
is_on-flags_where test Opost = refl
is_on-flags_where test Onlcr = refl
is_on-flags_where test Ocrnl = refl
is_on-flags_where test Clocal = refl
is_on-flags_where test Hupcl = refl
is_on-flags_where test Isig = refl
is_on-flags_where test Icanon = refl
is_on-flags_where test Echo = refl
is_on-flags_where test Echoe = refl
is_on-flags_where test Echok = refl
is_on-flags_where test Echonl = refl
is_on-flags_where test Echoctl = refl
is_on-flags_where test Noflsh = refl
is_on-flags_where test Tostop = refl

-- two tests that agree give the same flags
flags_where-same : (p q : Flag → Bool) → ((flag : Flag) → p flag ≡ q flag) → flags_where p ≡ flags_where q
flags_where-same p q h = λ i. flags_where (λ flag. h flag i)

or_last : (a b : Bool) → (a || (b || false)) ≡ cond b true a
or_last true true = refl
or_last true false = refl
or_last false true = refl
or_last false false = refl

-- one flag more in the list puts it on
pub flags_of-push : (list : List Flag) (flag : Flag) → flags_of (list ++ flag ∷ []) ≡ with_flag (flags_of list) flag true
flags_of-push list flag = flags_where-same _ _ (λ other.
    list_any-append (is_same other) list (flag ∷ [])
    ∙ or_last (list_any (is_same other) list) (is_same other flag)
    ∙ ap (cond (is_same other flag) true) (sym (is_on-flags_where (λ f. list_any (is_same f) list) other)))

or_none : (b : Bool) → (b || false) ≡ b
or_none true = refl
or_none false = refl

and_no : (b : Bool) → (b && false) ≡ false
and_no true = refl
and_no false = refl

and_yes : (b : Bool) → (b && true) ≡ b
and_yes true = refl
and_yes false = refl

any_choice : (b : Bool) (p : Flag → Bool) (flag : Flag) (kept : List Flag) → list_any p (cond b (flag ∷ kept) kept) ≡ ((p flag && b) || list_any p kept)
any_choice true p flag kept = ap (λ (x : Bool). x || list_any p kept) (sym (and_yes (p flag)))
any_choice false p flag kept = ap (λ (x : Bool). x || list_any p kept) (sym (and_no (p flag)))

list_any-filter : (p q : Flag → Bool) (list : List Flag) → list_any p (filter q list) ≡ list_any (λ flag. p flag && q flag) list
list_any-filter p q [] = refl
list_any-filter p q (flag ∷ list) = any_choice (q flag) p flag (filter q list) ∙ ap (λ (x : Bool). (p flag && q flag) || x) (list_any-filter p q list)

-- among all flags, each is found once
is_found_once : (flags : Flags) (flag : Flag) → list_any (λ other. is_same flag other && is_on flags other) all_flags ≡ is_on flags flag
is_found_once flags Istrip = or_none flags.istrip
is_found_once flags Inlcr = or_none flags.inlcr
is_found_once flags Igncr = or_none flags.igncr
is_found_once flags Icrnl = or_none flags.icrnl
is_found_once flags Ixon = or_none flags.ixon
is_found_once flags Opost = or_none flags.opost
is_found_once flags Onlcr = or_none flags.onlcr
is_found_once flags Ocrnl = or_none flags.ocrnl
is_found_once flags Clocal = or_none flags.clocal
is_found_once flags Hupcl = or_none flags.hupcl
is_found_once flags Isig = or_none flags.isig
is_found_once flags Icanon = or_none flags.icanon
is_found_once flags Echo = or_none flags.echo
is_found_once flags Echoe = or_none flags.echoe
is_found_once flags Echok = or_none flags.echok
is_found_once flags Echonl = or_none flags.echonl
is_found_once flags Echoctl = or_none flags.echoctl
is_found_once flags Noflsh = or_none flags.noflsh
is_found_once flags Tostop = or_none flags.tostop

-- the flags that are on are the flags
pub flags_of-on_flags : (flags : Flags) → flags_of (on_flags flags) ≡ flags
unfolding on_flags
flags_of-on_flags flags = flags_where-same _ (is_on flags) (λ flag. list_any-filter (is_same flag) (is_on flags) all_flags ∙ is_found_once flags flag)
