-- Which files of a line are live, by what has been done at it.
use Rattle.std.proofs.Common.{◌≡◌, ℕ, zero, suc, eqb, add-one, ◌+◌, ◌-◌, ◌<◌, ◌≤◌, Bool, true, false, List, [], ◌∷◌, sym, refl, ap, ◌∙◌, arith}
use Rattle.std.specs.Prelude.{nat_lt, replicate, ◌==◌, ◌||◌, if◌then◌else◌}
use Rattle.std.specs.List.{list_any}
use Rattle.std.proofs.lemmas.Bool.{ne_eqb}
use Rattle.std.proofs.lemmas.Bool.Decides.{nat_tests}
use Rattle.tty_dev.specs.Line.{LineState, live_after}
use Rattle.tty_dev.specs.History.{Use, opens, closes, revokes, Counts, after_use, after, is_revoked_in, without_one, files_after_use, may_close, Leads}
use Rattle.tty_dev.specs.History.{nothing, one_more}

-- a close leaves the generation
leaves_where : (test : Bool) (c : Counts) → (if test then c else record c { live = c.live - 1 }).generation ≡ c.generation
leaves_where true c = refl
leaves_where false c = refl

closes_leaves : (c : Counts) (opened : ℕ) → (after_use c (closes opened)).generation ≡ c.generation
closes_leaves c opened = leaves_where (nat_lt opened c.generation) c

-- the generation does not fall
rises_one : (c : Counts) (done : Use) → c.generation ≤ (after_use c done).generation
rises_one c opens = omega arith
rises_one c (closes opened) = omega (arith, closes_leaves c opened)
rises_one c revokes = omega arith

pub rises : (uses : List Use) (c : Counts) → c.generation ≤ (after c uses).generation
rises [] c = omega arith
rises (done ∷ uses) c = omega (arith, rises_one c done, rises uses (after_use c done))

-- a file is dead after what was done since its open where the line was revoked by it
pub dead_where_revoked : (uses : List Use) (c : Counts) (opened : ℕ) → opened ≡ c.generation → nat_lt opened (after c uses).generation ≡ is_revoked_in uses
dead_where_revoked [] c opened is = grind (arith, nat_tests)
dead_where_revoked (opens ∷ uses) c opened is = dead_where_revoked uses (record c { live = c.live + 1 }) opened is
dead_where_revoked (closes number ∷ uses) c opened is = dead_where_revoked uses (after_use c (closes number)) opened (is ∙ sym (closes_leaves c number))
dead_where_revoked (revokes ∷ uses) c opened is =
    let after_revoke = rises uses (record { generation = c.generation + 1; live = 0 }) in
    let above : opened < (after (record { generation = c.generation + 1; live = 0 }) uses).generation = omega (arith, after_revoke, is) in
    grind (arith, nat_tests)

-- a dead file stays dead
pub dead_for_good : (uses : List Use) (c : Counts) (opened : ℕ) → nat_lt opened c.generation ≡ true → nat_lt opened (after c uses).generation ≡ true
dead_for_good uses c opened dead = let h = rises uses c in grind (arith, nat_tests)

-- a file that is not of this generation is not among the live ones
without_other : (n generation opened : ℕ) → eqb generation opened ≡ false → without_one opened (replicate n generation) ≡ replicate n generation
without_other zero generation opened other = refl
without_other (suc n) generation opened other = rw other (ap (λ (files : List ℕ). generation ∷ files) (without_other n generation opened other))

among_where : (same rest : Bool) → (same || rest) ≡ true → (rest ≡ true → same ≡ true) → same ≡ true
among_where true rest among again = refl
among_where false rest among again = again among

among_live : (n generation opened : ℕ) → list_any (λ file. file == opened) (replicate n generation) ≡ true → (eqb generation opened ≡ true) × (0 < n)
among_live zero generation opened among = cc
among_live (suc n) generation opened among = (
  among_where (eqb generation opened) (list_any (λ file. file == opened) (replicate n generation)) among (λ rest. (among_live n generation opened rest).0),
  omega arith,
)

one_less : (n generation opened : ℕ) → eqb generation opened ≡ true → 0 < n → without_one opened (replicate n generation) ≡ replicate (n - 1) generation
one_less zero generation opened same some = elim some [ ]
one_less (suc n) generation opened same some = let less : suc n - 1 ≡ n = omega arith in rw (same, less) refl

-- a close leaves one live file less where it is of a live file
closed_where : (c : Counts) (opened : ℕ) (dead : Bool) → nat_lt opened c.generation ≡ dead
    → (dead || list_any (λ file. file == opened) (replicate c.live c.generation)) ≡ true
    → without_one opened (replicate c.live c.generation)
    ≡ replicate (if dead then c else record c { live = c.live - 1 }).live (if dead then c else record c { live = c.live - 1 }).generation
closed_where c opened true is in_order =
    let low : opened < c.generation = grind (arith, nat_tests) in
    let other : eqb c.generation opened ≡ false = ne_eqb c.generation opened (λ e. omega (arith, e, low)) in
    without_other c.live c.generation opened other
closed_where c opened false is in_order =
    let among = among_live c.live c.generation opened in_order in
    one_less c.live c.generation opened among.0 among.1

-- one more that is done leaves the live files as many as are counted
live_files_then : (c : Counts) (files : List ℕ) (done : Use) → files ≡ replicate c.live c.generation → may_close c files done ≡ true
    → files_after_use c.generation files done ≡ replicate (after_use c done).live (after_use c done).generation
live_files_then c files opens are in_order = rw (are, add-one) refl
live_files_then c files revokes are in_order = refl
live_files_then c files (closes opened) are in_order =
    ap (without_one opened) are
    ∙ closed_where c opened (nat_lt opened c.generation) refl
    (sym (ap (λ (fs : List ℕ). nat_lt opened c.generation || list_any (λ file. file == opened) fs) are) ∙ in_order)

-- the files that are left were opened at this generation, as many as are live
pub live_files : (uses : List Use) (c : Counts) (files : List ℕ) → Leads uses c files → files ≡ replicate c.live c.generation
live_files uses c files nothing = refl
live_files uses c files (one_more before was left done leads in_order) = live_files_then was left done (live_files before was left leads) in_order

live_where : (test : Bool) (c : Counts) → (if test then c.live else c.live - 1) ≡ (if test then c else record c { live = c.live - 1 }).live
live_where true c = refl
live_where false c = refl

-- a line counts a close as a history does
pub close_counts : (line : LineState) (opened : ℕ)
    → live_after line opened ≡ (after_use (record { generation = line.generation; live = line.live }) (closes opened)).live
close_counts line opened = live_where (nat_lt opened line.generation) (record { generation = line.generation; live = line.live })
