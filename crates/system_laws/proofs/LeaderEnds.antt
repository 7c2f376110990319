-- The end of a process that leads a line's session revokes the line.
use Rattle.std.proofs.Common.{◌≡◌, ℕ, suc, ◌+◌, ◌-◌, ◌<◌, Bool, true, false, length, List, [], ◌∷◌, ◌++◌, refl, subst, arith}
use Rattle.std.specs.Prelude.{◌==◌, ◌||◌, Option, Some, slice_get}
use Rattle.std.specs.List.{list_any}
use Rattle.std.proofs.lemmas.Bool.{eqb-true, eq-eqb}
use Rattle.sys_types.specs.declared.limits.TheConstants.{SLOTS}
use Rattle.call_words.specs.declared.event.Event.{Event}
use Rattle.call_words.specs.declared.event.How.{How}
use Rattle.proc_table.specs.Processes.{Process}
use Rattle.system_model.specs.Parts.{Path}
use Rattle.system_model.specs.State.{View}
use Rattle.system_model.specs.ProcessEffects.{bury, clear_ending}
use Rattle.system_model.specs.Effects.{Effect, on_processes, change_all}
use Rattle.system_model.specs.Rows.{done}
use Rattle.system_model.specs.Looks.{caller_of, line_of_session}
use Rattle.system_model.specs.Endings.{close_all, leave_line, leave_session, end_one, end_next, endings, endings_of}
use Rattle.system_model.specs.Step.{row}
use Rattle.system_laws.specs.Laws.{is_revoke_of, before_ending, revokes_line}
use Rattle.system_laws.proofs.Fuel.{endings_step, endings-parts, none-more}

or-front : (b a c : Bool) → (a ≡ true → c ≡ true) → (b || a) ≡ true → (b || c) ≡ true
or-front true a c more is = refl
or-front false a c more is = more is

or-behind : (b c : Bool) → c ≡ true → (b || c) ≡ true
or-behind true c is = refl
or-behind false c is = is

any-front : (n : ℕ) (es fs : List Effect) → list_any (is_revoke_of n) es ≡ true → list_any (is_revoke_of n) (es ++ fs) ≡ true
any-front n [] fs is = cc
any-front n (e ∷ es) fs is = or-front (is_revoke_of n e) (list_any (is_revoke_of n) es) (list_any (is_revoke_of n) (es ++ fs)) (any-front n es fs) is

any-behind : (n : ℕ) (es fs : List Effect) → list_any (is_revoke_of n) fs ≡ true → list_any (is_revoke_of n) (es ++ fs) ≡ true
any-behind n [] fs is = is
any-behind n (e ∷ es) fs is = or-behind (is_revoke_of n e) (list_any (is_revoke_of n) (es ++ fs)) (any-behind n es fs is)

same-line : (n : ℕ) → (n == n) ≡ true
same-line n = eq-eqb n n refl

leave-revokes : (v : View) (n : ℕ) (line : Option ℕ) → line ≡ Some n → list_any (is_revoke_of n) (leave_line v line) ≡ true
leave-revokes v n line is = rw is (rw (same-line n) refl)

session-revokes : (v : View) (who : Process Path) (n : ℕ) → (who.pid == who.session) ≡ true → line_of_session v who.session ≡ Some n
    → list_any (is_revoke_of n) (leave_session v who) ≡ true
session-revokes v who n leads line = rw leads (leave-revokes v n (line_of_session v who.session) line)

one-revokes : (v : View) (slot n : ℕ) (why : How) → ((caller_of v slot).pid == (caller_of v slot).session) ≡ true
    → line_of_session v (caller_of v slot).session ≡ Some n → list_any (is_revoke_of n) (end_one v slot why) ≡ true
one-revokes v slot n why leads line =
    any-front n (close_all v slot ++ leave_session v (caller_of v slot)) (on_processes (bury slot why) ∷ [])
    (any-behind n (close_all v slot) (leave_session v (caller_of v slot)) (session-revokes v (caller_of v slot) n leads line))

next-revokes : (v : View) (next : Option (ℕ × How)) (slot n : ℕ) (why : How) → next ≡ Some (slot, why) → ((caller_of v slot).pid == (caller_of v slot).session) ≡ true
    → line_of_session v (caller_of v slot).session ≡ Some n → list_any (is_revoke_of n) (end_next v next) ≡ true
next-revokes v next slot n why is leads line = rw is (one-revokes v slot n why leads line)

step-revokes : (fuel place : ℕ) (v : View) (slot n : ℕ) (why : How) → slice_get v.ending place ≡ Some (slot, why)
    → ((caller_of v slot).pid == (caller_of v slot).session) ≡ true → line_of_session v (caller_of v slot).session ≡ Some n
    → list_any (is_revoke_of n) (endings (suc fuel) place v) ≡ true
step-revokes fuel place v slot n why is leads line =
    rw (endings_step fuel place v)
    (any-front n (end_next v (slice_get v.ending place)) (endings fuel (place + 1) (change_all v (end_next v (slice_get v.ending place))))
    (next-revokes v (slice_get v.ending place) slot n why is leads line))

-- the rest of the endings, from a place on
rest-revokes : (own : View) (place slot n : ℕ) (why : How) → place < SLOTS
    → slice_get (change_all own (endings place 0 own)).ending place ≡ Some (slot, why)
    → ((caller_of (change_all own (endings place 0 own)) slot).pid == (caller_of (change_all own (endings place 0 own)) slot).session) ≡ true
    → line_of_session (change_all own (endings place 0 own)) (caller_of (change_all own (endings place 0 own)) slot).session ≡ Some n
    → list_any (is_revoke_of n) (endings SLOTS 0 own) ≡ true
rest-revokes own place slot n why below is leads line =
    (let split : SLOTS ≡ place + suc (SLOTS - place - 1) = omega (arith, below) in
    let from : 0 + place ≡ place = omega arith in
    rw (endings-parts SLOTS place (suc (SLOTS - place - 1)) 0 own split, from)
    (any-behind n (endings place 0 own) (endings (suc (SLOTS - place - 1)) place (change_all own (endings place 0 own)))
    (step-revokes (SLOTS - place - 1) place (change_all own (endings place 0 own)) slot n why is leads line)))

-- where nobody is to be ended nothing is done
none-done : (own : View) (place : ℕ) → length own.ending ≡ 0 → endings place 0 own ≡ []
none-done own place none = none-more place 0 own (omega (arith, none))

no-place : (xs : List (ℕ × How)) (place : ℕ) (e : ℕ × How) → length xs ≡ 0 → slice_get xs place ≡ Some e → ⊥
no-place [] place e none is = cc
no-place (x ∷ xs) place e none is = omega arith

not-empty : (own : View) (place : ℕ) (e : ℕ × How) → slice_get (change_all own (endings place 0 own)).ending place ≡ Some e → (length own.ending == 0) ≡ false
not-empty own place e is = by_length (length own.ending == 0) refl
  where
    by_length : (b : Bool) → (length own.ending == 0) ≡ b → (length own.ending == 0) ≡ false
    by_length false more = more
    by_length true none =
        (let empty : length own.ending ≡ 0 = eqb-true (length own.ending) 0 none in
        absurd (no-place own.ending place e empty (subst (λ es. slice_get (change_all own es).ending place ≡ Some e) (none-done own place empty) is)))

pub leader_ends : (v : View) (e : Event) (place slot n : ℕ) (why : How) → place < SLOTS → slice_get (before_ending v e place).ending place ≡ Some (slot, why)
    → ((caller_of (before_ending v e place) slot).pid == (caller_of (before_ending v e place) slot).session) ≡ true
    → line_of_session (before_ending v e place) (caller_of (before_ending v e place) slot).session ≡ Some n → revokes_line v e n ≡ true
leader_ends v e place slot n why below is leads line =
    let own = change_all v (done (row v e)) in
    any-behind n (done (row v e)) (endings_of own)
    (rw (not-empty own place (slot, why) is)
    (any-front n (endings SLOTS 0 own) (on_processes clear_ending ∷ []) (rest-revokes own place slot n why below is leads line)))
