-- A line is revoked: what calls see of all files then, and that the tables fit.
use Rattle.std.proofs.Common.{◌≡◌, ◌≢◌, ◌⊎◌, inl, inr, ℕ, zero, suc, ◌+◌, ◌≤◌, ◌<◌, Bool, true, false, cond, not, List, [], ◌∷◌, length, set, Option, Some, None}
use Rattle.std.proofs.Common.{refl, sym, ap, ◌∙◌, subst, arith}
use Rattle.std.specs.Prelude.{◌==◌, ◌&&◌, nat_lt, count_by, is_some}
use Rattle.sys_types.specs.declared.limits.TheConstants.{LINES}
use Rattle.std.proofs.lemmas.Bool.Decides.{nat_tests, eqb_tells}
use Rattle.std.proofs.lemmas.List.{get_or-set_same, get_or-set_other, length-map, length-set, map-set}
use Rattle.std.proofs.lemmas.List.Sums.{sum_by-cons}
use Rattle.block_pool.specs.Pool.{PoolState}
use Rattle.fd_table.specs.declared.open.Open.{Open}
use Rattle.fd_table.specs.declared.open.Target.{Target as KernelTarget}
use Rattle.fd_table.specs.declared.open.Target.TheVariants.{File as FileOf, PipeRead, PipeWrite, Line}
use Rattle.fd_table.specs.Shared.{Shared, entry_at, holds, count_files, map_files}
use Rattle.line_disc.specs.Device as device
use Rattle.line_disc.specs.Device.{Device, closed_device}
use Rattle.line_disc.specs.Lines.{line_at, change_line}
use Rattle.tty_dev.specs.Line.{LineState}
use Rattle.tty_dev.specs.History.{Counts, at_first, revokes, after_use}
use Rattle.tty_dev.specs.Table.{devices, counts_of, boots_of, count_at, use_line}
use Rattle.system_model.specs.Keeping.{mark_dead}
use Rattle.system_model.specs.Effects.{on_lines, change}
use Rattle.system_model.specs.LineEffects.{revoke_line, change_lines}
use Rattle.system_model.specs.Fit.{is_live_file, FitLines, AreRevokedAtMost}
use Rattle.system_model.specs.Tables.{Tables, generations, generation_at, seen_files, seen_pipes, view_of}
use Rattle.system_model.proofs.ClosingLemmas.{generation_seen}
use Rattle.system_model.proofs.SeenFiles.{one_more, revoke_seen}
use Rattle.system_model.proofs.SeenCounts.{files_same}
use Rattle.system_model.proofs.Views.{seen_as}

-- ---- how often lines were revoked

abbrev after_revoke : List Counts → ℕ → List Counts
after_revoke counts n = use_line revokes counts n

length-generations : (counts : List Counts) → length (generations counts) ≡ length counts
unfolding generations
length-generations counts = length-map counts _

generations-set : (counts : List Counts) (n : ℕ) → generations (after_revoke counts n) ≡ set (generations counts) n ((count_at counts n).generation + 1)
unfolding generations
generations-set counts n = map-set (λ c. c.generation) counts n (after_use (count_at counts n) revokes)

generations-revoked : (counts : List Counts) (n : ℕ) → generations (after_revoke counts n) ≡ one_more (generations counts) n
generations-revoked counts n = generations-set counts n ∙ ap (λ g. set (generations counts) n (g + 1)) (sym (generation_seen counts n))

-- ---- the files of the view

pub revoked_as : (t : Tables) (pool : PoolState) (lines : List LineState) (n : ℕ) → n < LINES → FitLines t.descriptors (counts_of t.lines) (boots_of t.lines)
    → devices pool lines ≡ change_line device.revoke (devices t.pool t.lines) n → counts_of lines ≡ use_line revokes (counts_of t.lines) n
    → seen_pipes pool t.pipes ≡ seen_pipes t.pool t.pipes
    → view_of (record t { pool = pool; lines = lines }) ≡ change (view_of t) (on_lines (revoke_line n))
unfolding view_of change_lines
revoked_as t pool lines n below fit is counts pipes =
    seen_as (record t { pool = pool; lines = lines })
    (record (view_of t) {
      lines = change_line device.revoke (devices t.pool t.lines) n;
      descriptors = map_files (mark_dead n) (seen_files t.nodes (generations (counts_of t.lines)) t.descriptors);
    })
    (ap (λ cs. seen_files t.nodes (generations cs) t.descriptors) counts
    ∙ ap (λ g. seen_files t.nodes g t.descriptors) (generations-revoked (counts_of t.lines) n)
    ∙ revoke_seen t.nodes (generations (counts_of t.lines)) n t.descriptors (rw (length-generations (counts_of t.lines), fit.lines) below) (λ entry opened. fit.early entry n opened))
    pipes is refl refl refl refl refl

-- ---- the lines fit

dead-now : (g : List ℕ) (n line opened : ℕ) → n < length g → (line ≡ n → opened ≤ generation_at g line)
    → (not (nat_lt opened (generation_at (one_more g n) line)) && (line == n)) ≡ false
dead-now g n line opened inside early = by_case (eqb_tells line n)
  where
    at_n : line ≡ n → nat_lt opened (generation_at (one_more g n) line) ≡ true
    at_n same =
        let is : generation_at (one_more g n) n ≡ generation_at g n + 1 = get_or-set_same g n (generation_at g n + 1) 0 inside in
        let old : opened ≤ generation_at g n = subst (λ k. opened ≤ generation_at g k) same (early same) in
        rw (same, is) (grind (arith, old, nat_tests))

    by_case : ((line == n) ≡ true) × (line ≡ n) ⊎ ((line == n) ≡ false) × (line ≢ n)
        → (not (nat_lt opened (generation_at (one_more g n) line)) && (line == n)) ≡ false
    by_case (inl same) = rw (at_n same.1) refl
    by_case (inr other) = rw other.0 (and-false (not (nat_lt opened (generation_at (one_more g n) line))))
      where
        and-false : (b : Bool) → (b && false) ≡ false
        and-false true = refl
        and-false false = refl

none-live : (g : List ℕ) (n : ℕ) (target : KernelTarget) → n < length g → ((opened : ℕ) → target ≡ Line n opened → opened ≤ generation_at g n)
    → is_live_file (one_more g n) n target ≡ false
none-live g n (FileOf number) inside early = refl
none-live g n (PipeRead k) inside early = refl
none-live g n (PipeWrite k) inside early = refl
none-live g n (Line line opened) inside early =
    dead-now g n line opened inside (λ same. subst (λ k. opened ≤ generation_at g k) (sym same) (early opened (ap (λ k. Line k opened) same)))

abbrev bit : Bool → ℕ
bit b = cond b 1 0

count-none : (g : List ℕ) (n : ℕ) (files : List (Option Open)) → n < length g
    → ((entry opened : ℕ) (f : Open) → entry_at files entry ≡ Some f → f.target ≡ Line n opened → opened ≤ generation_at g n)
    → count_by (holds (λ (f : Open). is_live_file (one_more g n) n f.target)) files ≡ 0
count-none g n [] inside early = refl
count-none g n (None ∷ files) inside early =
    let sum = sum_by-cons (λ (o : Option Open). bit (holds (λ (f : Open). is_live_file (one_more g n) n f.target) o)) None files in
    let rest = count-none g n files inside (λ entry opened f. early (suc entry) opened f) in
    omega (arith, sum, rest)
count-none g n (Some x ∷ files) inside early =
    let sum = sum_by-cons (λ (o : Option Open). bit (holds (λ (f : Open). is_live_file (one_more g n) n f.target) o)) (Some x) files in
    let here : bit (is_live_file (one_more g n) n x.target) ≡ 0 = ap bit (none-live g n x.target inside (λ opened. early zero opened x refl)) in
    let rest = count-none g n files inside (λ entry opened f. early (suc entry) opened f) in
    omega (arith, sum, here, rest)

-- another line's files are as they were
other-live : (g : List ℕ) (n k : ℕ) (target : KernelTarget) → k ≢ n → is_live_file (one_more g n) k target ≡ is_live_file g k target
other-live g n k (FileOf number) other = refl
other-live g n k (PipeRead j) other = refl
other-live g n k (PipeWrite j) other = refl
other-live g n k (Line line opened) other = by_case (eqb_tells line k)
  where
    and-false : (b c : Bool) → (b && false) ≡ (c && false)
    and-false true true = refl
    and-false true false = refl
    and-false false true = refl
    and-false false false = refl

    by_case : ((line == k) ≡ true) × (line ≡ k) ⊎ ((line == k) ≡ false) × (line ≢ k)
        → (not (nat_lt opened (generation_at (one_more g n) line)) && (line == k)) ≡ (not (nat_lt opened (generation_at g line)) && (line == k))
    by_case (inl same) =
        ap (λ x. not (nat_lt opened x) && (line == k))
        (get_or-set_other g n line (generation_at g n + 1) 0 (λ is. other (sym same.1 ∙ is)))
    by_case (inr differs) = rw differs.0 (and-false (not (nat_lt opened (generation_at (one_more g n) line))) (not (nat_lt opened (generation_at g line))))

rises : (g : List ℕ) (n k : ℕ) → n < length g → generation_at g k ≤ generation_at (one_more g n) k
rises g n k inside = by_case (eqb_tells k n)
  where
    by_case : ((k == n) ≡ true) × (k ≡ n) ⊎ ((k == n) ≡ false) × (k ≢ n) → generation_at g k ≤ generation_at (one_more g n) k
    by_case (inl same) =
        let is : generation_at (one_more g n) n ≡ generation_at g n + 1 = get_or-set_same g n (generation_at g n + 1) 0 inside in
        rw (same.1, is) (omega arith)
    by_case (inr other) =
        let is : generation_at (one_more g n) k ≡ generation_at g k = get_or-set_other g n k (generation_at g n + 1) 0 other.1 in
        rw is (omega arith)

live-after : (d : Shared Open) (counts : List Counts) (n k : ℕ) → n < length counts
    → ((entry opened : ℕ) (f : Open) → entry_at d.files entry ≡ Some f → f.target ≡ Line n opened → opened ≤ generation_at (generations counts) n)
    → (count_at counts k).live ≡ count_files (λ f. is_live_file (generations counts) k f.target) d
    → (count_at (after_revoke counts n) k).live ≡ count_files (λ f. is_live_file (one_more (generations counts) n) k f.target) d
live-after d counts n k inside early is = by_case (eqb_tells k n)
  where
    by_case : ((k == n) ≡ true) × (k ≡ n) ⊎ ((k == n) ≡ false) × (k ≢ n)
        → (count_at (after_revoke counts n) k).live ≡ count_files (λ f. is_live_file (one_more (generations counts) n) k f.target) d
    by_case (inl same) =
        rw same.1
        (ap (λ (c : Counts). c.live) (get_or-set_same counts n (after_use (count_at counts n) revokes) at_first inside)
        ∙ sym (count-none (generations counts) n d.files (rw (length-generations counts) inside) early))
    by_case (inr other) =
        ap (λ (c : Counts). c.live) (get_or-set_other counts n k (after_use (count_at counts n) revokes) at_first other.1)
        ∙ is
        ∙ sym (files_same (λ f. is_live_file (one_more (generations counts) n) k f.target) (λ f. is_live_file (generations counts) k f.target)
        (λ f. other-live (generations counts) n k f.target other.1) d)

below-more : (a b c : ℕ) → a ≤ b → b ≤ c → a ≤ c
below-more a b c one two = omega arith

pub revoke_fits : (d : Shared Open) (counts : List Counts) (boots : List Bool) (n : ℕ) → n < LINES → FitLines d counts boots → FitLines d (use_line revokes counts n) boots
revoke_fits d counts boots n below fit =
    let inside : n < length counts = rw fit.lines below in
    record {
      lines = length-set counts n (after_use (count_at counts n) revokes) ∙ fit.lines;
      live = λ k inner. rw (generations-revoked counts n) (live-after d counts n k inside (λ entry opened. fit.early entry n opened) (fit.live k inner));
      there = fit.there;
      early =
          λ entry k opened f is of.
          rw (generations-revoked counts n)
          (below-more opened (generation_at (generations counts) k) (generation_at (one_more (generations counts) n) k) (fit.early entry k opened f is of)
          (rises (generations counts) n k (rw (length-generations counts) inside)));
      cooked = fit.cooked;
    }

-- ---- how often lines were revoked, with what the end of a leader may bring

at-line : (had : Bool) (generation most : ℕ) → generation + cond had 1 0 ≤ most → generation + 1 + 0 ≤ most + cond had 0 1
at-line true generation most le = omega arith
at-line false generation most le = omega arith

at-other : (had : Bool) (count most : ℕ) → count ≤ most → count ≤ most + cond had 0 1
at-other true count most le = omega arith
at-other false count most le = omega arith

pub revoked_once : (most : ℕ) (old new : PoolState) (before after : List LineState) (n : ℕ) → n < length (counts_of before) → n < length (devices old before)
    → devices new after ≡ change_line device.revoke (devices old before) n → counts_of after ≡ use_line revokes (counts_of before) n
    → AreRevokedAtMost most old before
    → AreRevokedAtMost (most + cond (is_some (line_at (devices old before) n).session) 0 1) new after
revoked_once most old new before after n counted held is counts fit = record { each = λ k. rw (is, counts) (by_case k (eqb_tells k n)) }
  where
    had : Bool
    had = is_some (line_at (devices old before) n).session

    by_case : (k : ℕ) → ((k == n) ≡ true) × (k ≡ n) ⊎ ((k == n) ≡ false) × (k ≢ n)
        → (count_at (use_line revokes (counts_of before) n) k).generation
        + cond (is_some (line_at (change_line device.revoke (devices old before) n) k).session) 1 0 ≤ most + cond had 0 1
    by_case k (inl same) =
        rw (
          same.1,
          get_or-set_same (counts_of before) n (after_use (count_at (counts_of before) n) revokes) at_first counted,
          get_or-set_same (devices old before) n (device.revoke (line_at (devices old before) n)) closed_device held,
        )
        (at-line had (count_at (counts_of before) n).generation most (fit.each n))
    by_case k (inr other) =
        rw (
          get_or-set_other (counts_of before) n k (after_use (count_at (counts_of before) n) revokes) at_first other.1,
          get_or-set_other (devices old before) n k (device.revoke (line_at (devices old before) n)) closed_device other.1,
        )
        (at-other had ((count_at (counts_of before) k).generation + cond (is_some (line_at (devices old before) k).session) 1 0) most (fit.each k))
