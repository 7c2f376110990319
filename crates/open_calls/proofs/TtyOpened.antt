-- A file of a terminal line is opened: what calls see then, and that the tables fit.
use Rattle.std.proofs.Common.{◌≡◌, ◌≢◌, ◌⊎◌, inl, inr, ⊎_elim, ℕ, zero, suc, ◌+◌, ◌<◌, ◌≤◌, Bool}
use Rattle.std.proofs.Common.{true, false, cond, not, List, [], ◌∷◌, length, map, get_or, set, Option, Some, None}
use Rattle.std.proofs.Common.{refl, sym, ap, ◌∙◌, subst, arith}
use Rattle.std.specs.Prelude.{◌==◌, ◌&&◌, nat_lt, count_by, slice_index_or}
use Rattle.std.proofs.lemmas.Bool.Decides.{nat_tests, eqb_tells}
use Rattle.std.proofs.lemmas.List.{get_or-set_same, get_or-set_other, length-set, map-set, set-get_or}
use Rattle.std.proofs.lemmas.List.Sums.{sum_by-cons}
use Rattle.sys_types.specs.declared.limits.TheConstants.{LINES, RAW_LINE}
use Rattle.termios_core.specs.declared.termios.Termios.{Termios}
use Rattle.termios_core.specs.Termios.{cooked, raw}
use Rattle.block_pool.specs.Chain.{ChainState}
use Rattle.block_pool.specs.Pool.{PoolState}
use Rattle.call_words.specs.declared.open.Access.{Access}
use Rattle.call_words.specs.declared.open.OpenFlags.{OpenFlags}
use Rattle.fd_table.specs.declared.open.Open.{Open}
use Rattle.fd_table.specs.declared.open.Target.{Target as KernelTarget}
use Rattle.fd_table.specs.declared.open.Target.TheVariants.{File as FileOf, PipeRead, PipeWrite, Line}
use Rattle.fd_table.specs.Opens.{same_target, is_of}
use Rattle.fd_table.specs.Shared.{Shared, entry_at, holds, count_files}
use Rattle.fd_table.specs.Calls.{open_lowest}
use Rattle.line_disc.specs.Device as device
use Rattle.line_disc.specs.Device.{Device}
use Rattle.line_disc.specs.Lines.{change_line}
use Rattle.pipe_core.specs.Pipes.{Pipes}
use Rattle.tree_model.specs.Tree.{NodeAt}
use Rattle.tty_dev.specs.Line as line
use Rattle.tty_dev.specs.Line.{LineState}
use Rattle.tty_dev.specs.History.{Counts, at_first, opens, after_use}
use Rattle.tty_dev.specs.Table.{devices, counts_of, count_at, use_line}
use Rattle.system_model.specs.Parts.{tty}
use Rattle.system_model.specs.Looks.{boot_termios}
use Rattle.system_model.specs.LineEffects.{open_line, change_lines}
use Rattle.system_model.specs.Effects.{on_lines, change, change_all}
use Rattle.system_model.specs.OpenCalls.{file_for, tty_effects, open_target}
use Rattle.system_model.specs.Fit.{is_end_of, is_live_file, FitFiles, FitPipes, FitLines}
use Rattle.system_model.specs.Tables.{Tables, generations, generation_at, seen_files, seen_pipes, view_of}
use Rattle.system_model.proofs.ClosingLemmas.{generation_seen}
use Rattle.system_model.proofs.Views.{seen_as}
use Rattle.open_calls.specs.Openings.{open_for}
use Rattle.open_calls.proofs.OpenLemmas.{bit, IsOpened, files_opened, pipes_opened}
use Rattle.open_calls.proofs.Opened.{file_opened}

-- ---- the counts of a line

abbrev counts-in : LineState → Counts
counts-in line = record { generation = line.generation; live = line.live }

map-at : {X Y : Type 0} (f : X → Y) (xs : List X) (n : ℕ) (d : X) (e : Y) → n < length xs → get_or (map f xs) n e ≡ f (get_or xs n d)
map-at f [] n d e within = absurd (omega arith)
map-at f (x ∷ xs) zero d e within = refl
map-at f (x ∷ xs) (suc n) d e within = map-at f xs n d e (omega arith)

pub generation_at_n : (lines : List LineState) (n : ℕ) (d : LineState) → n < length lines
    → (count_at (counts_of lines) n).generation ≡ (get_or lines n d).generation
unfolding counts_of
generation_at_n lines n d within = ap (λ (c : Counts). c.generation) (map-at counts-in lines n d at_first within)

-- an open leaves how often lines were revoked
pub generations_left : (counts : List Counts) (n : ℕ) → generations (use_line opens counts n) ≡ generations counts
unfolding generations
generations_left counts n =
    map-set (λ c. c.generation) counts n (after_use (count_at counts n) opens)
    ∙ ap (set (map (λ c. c.generation) counts) n) (sym (at_map counts n))
    ∙ set-get_or (map (λ c. c.generation) counts) n 0
  where
    at_map : (cs : List Counts) (i : ℕ) → get_or (map (λ c. c.generation) cs) i 0 ≡ (count_at cs i).generation
    at_map [] i = refl
    at_map (c ∷ cs) zero = refl
    at_map (c ∷ cs) (suc i) = at_map cs i

pub generation_left : (counts : List Counts) (n k : ℕ) → (count_at (use_line opens counts n) k).generation ≡ (count_at counts k).generation
generation_left counts n k =
    sym (generation_seen (use_line opens counts n) k) ∙ ap (λ g. generation_at g k) (generations_left counts n) ∙ generation_seen counts k

-- ---- the live files of a line are those that were opened since its last revoke

and-false : (b : Bool) → (b && false) ≡ false
and-false true = refl
and-false false = refl

live-is : (g : List ℕ) (n : ℕ) (target : KernelTarget) → ((since : ℕ) → target ≡ Line n since → since ≤ generation_at g n)
    → is_live_file g n target ≡ same_target target (Line n (generation_at g n))
live-is g n (FileOf number) early = refl
live-is g n (PipeRead k) early = refl
live-is g n (PipeWrite k) early = refl
live-is g n (Line m since) early = by_line (eqb_tells m n)
  where
    same-line : m ≡ n → (since ≤ generation_at g n) → (not (nat_lt since (generation_at g m)) && true) ≡ (true && since == generation_at g n)
    same-line same most = rw same (let eq : not (nat_lt since (generation_at g n)) ≡ (since == generation_at g n) = grind (arith, nat_tests) in and-true _ ∙ eq)
      where
        and-true : (b : Bool) → (b && true) ≡ b
        and-true true = refl
        and-true false = refl

    by_line : ((m == n) ≡ true) × (m ≡ n) ⊎ ((m == n) ≡ false) × (m ≢ n)
        → (not (nat_lt since (generation_at g m)) && (m == n)) ≡ (m == n && since == generation_at g n)
    by_line (inl same) = rw same.0 (same-line same.1 (early since (ap (λ k. Line k since) same.1)))
    by_line (inr other) = rw other.0 (and-false (not (nat_lt since (generation_at g m))))

count-is : (g : List ℕ) (n : ℕ) (files : List (Option Open))
    → ((entry since : ℕ) (f : Open) → entry_at files entry ≡ Some f → f.target ≡ Line n since → since ≤ generation_at g n)
    → count_by (holds (λ (f : Open). is_live_file g n f.target)) files ≡ count_by (holds (is_of (Line n (generation_at g n)))) files
count-is g n [] early = refl
count-is g n (None ∷ files) early =
    let live = sum_by-cons (λ (o : Option Open). bit (holds (λ (f : Open). is_live_file g n f.target) o)) None files in
    let is = sum_by-cons (λ (o : Option Open). bit (holds (is_of (Line n (generation_at g n))) o)) None files in
    let rest = count-is g n files (λ entry since f. early (suc entry) since f) in
    omega (arith, live, is, rest)
count-is g n (Some x ∷ files) early =
    let live = sum_by-cons (λ (o : Option Open). bit (holds (λ (f : Open). is_live_file g n f.target) o)) (Some x) files in
    let is = sum_by-cons (λ (o : Option Open). bit (holds (is_of (Line n (generation_at g n))) o)) (Some x) files in
    let here : bit (is_live_file g n x.target) ≡ bit (same_target x.target (Line n (generation_at g n))) =
    ap bit (live-is g n x.target (λ since. early zero since x refl)) in
    let rest = count-is g n files (λ entry since f. early (suc entry) since f) in
    omega (arith, live, is, here, rest)

own-target : (n opened : ℕ) → same_target (Line n opened) (Line n opened) ≡ true
own-target n opened = grind (arith, nat_tests)

-- with the file that was opened, at most 256 are live
pub few_live : (d after : Shared Open) (counts : List Counts) (boots : List Bool) (slot n : ℕ) (f : Open) → IsOpened d after slot f
    → f.target ≡ Line n (count_at counts n).generation → n < LINES → FitLines d counts boots
    → count_files (is_of (Line n (count_at counts n).generation)) after ≤ 256 → (count_at counts n).live < 256
few_live d after counts boots slot n f is of below fit most =
    let live = fit.live n below in
    let same = count-is (generations counts) n d.files (λ entry since. fit.early entry n since) in
    let those : count_files (is_of (Line n (generation_at (generations counts) n))) d ≡ count_files (is_of (Line n (count_at counts n).generation)) d =
    ap (λ g. count_files (is_of (Line n g)) d) (generation_seen counts n) in
    let all = is.counts (is_of (Line n (count_at counts n).generation)) in
    let one : bit (is_of (Line n (count_at counts n).generation) f) ≡ 1 =
    ap (λ target. bit (same_target target (Line n (count_at counts n).generation))) of ∙ ap bit (own-target n (count_at counts n).generation) in
    omega (arith, live, same, those, all, one, most)

-- ---- the tables fit

pub files_with_tty : (nodes : List (Option NodeAt)) (d after : Shared Open) (slot n since : ℕ) (f : Open) → IsOpened d after slot f → f.target ≡ Line n since
    → FitFiles nodes d → FitFiles nodes after
files_with_tty nodes d after slot n since f is of fit =
    files_opened nodes d after slot f is (λ number never. absurd (let no : Line n since ≡ FileOf number = sym of ∙ never in cc)) fit

pub pipes_with_tty : (d after : Shared Open) (slot n since : ℕ) (f : Open) (pipes : Pipes ChainState) → IsOpened d after slot f → f.target ≡ Line n since
    → FitPipes d pipes → FitPipes after pipes
pipes_with_tty d after slot n since f pipes is of fit = pipes_opened d after slot f pipes is (λ k. ap (is_end_of k) of) fit

live-now : (counts : List Counts) (n k : ℕ) → is_live_file (generations counts) k (Line n (count_at counts n).generation) ≡ (n == k)
live-now counts n k =
    ap (λ g. not (nat_lt (count_at counts n).generation g) && (n == k)) (generation_seen counts n)
    ∙ ap (λ b. not b && (n == k)) (not-less (count_at counts n).generation)
  where
    not-less : (g : ℕ) → nat_lt g g ≡ false
    not-less g = grind (arith, nat_tests)

live-with : (d after : Shared Open) (counts : List Counts) (boots : List Bool) (slot n k : ℕ) (f : Open) → IsOpened d after slot f
    → f.target ≡ Line n (count_at counts n).generation → n < LINES → k < LINES → FitLines d counts boots
    → (count_at (use_line opens counts n) k).live ≡ count_files (λ g. is_live_file (generations counts) k g.target) after
live-with d after counts boots slot n k f is of there below fit = by_line (eqb_tells n k)
  where
    all : count_files (λ g. is_live_file (generations counts) k g.target) after
        ≡ count_files (λ g. is_live_file (generations counts) k g.target) d + bit (is_live_file (generations counts) k f.target)
    all = is.counts (λ g. is_live_file (generations counts) k g.target)

    test : bit (is_live_file (generations counts) k f.target) ≡ bit (n == k)
    test = ap (λ target. bit (is_live_file (generations counts) k target)) of ∙ ap bit (live-now counts n k)

    by_line : ((n == k) ≡ true) × (n ≡ k) ⊎ ((n == k) ≡ false) × (n ≢ k)
        → (count_at (use_line opens counts n) k).live ≡ count_files (λ g. is_live_file (generations counts) k g.target) after
    by_line (inl same) =
        (let one : bit (is_live_file (generations counts) k f.target) ≡ 1 = test ∙ ap bit same.0 in
        let was = fit.live k below in
        let here : (count_at (use_line opens counts n) n).live ≡ (count_at counts n).live + 1 =
        ap (λ (c : Counts). c.live) (get_or-set_same counts n (after_use (count_at counts n) opens) at_first (subst (λ m. n < m) (sym fit.lines) there)) in
        let moved : (count_at (use_line opens counts n) k).live ≡ (count_at counts k).live + 1 =
        subst (λ m. (count_at (use_line opens counts n) m).live ≡ (count_at counts m).live + 1) same.1 here in
        omega (arith, all, one, was, moved))
    by_line (inr other) =
        (let none : bit (is_live_file (generations counts) k f.target) ≡ 0 = test ∙ ap bit other.0 in
        let was = fit.live k below in
        let kept : (count_at (use_line opens counts n) k).live ≡ (count_at counts k).live =
        ap (λ (c : Counts). c.live) (get_or-set_other counts n k (after_use (count_at counts n) opens) at_first (λ same. other.1 (sym same))) in
        omega (arith, all, none, was, kept))

same-line : (a b x y : ℕ) → Line a x ≡ Line b y → (a ≡ b) × (x ≡ y)
same-line a b x y is = (cc, cc)

pub lines_with_tty : (d after : Shared Open) (counts : List Counts) (boots : List Bool) (slot n : ℕ) (f : Open) → IsOpened d after slot f
    → f.target ≡ Line n (count_at counts n).generation → n < LINES → FitLines d counts boots → FitLines after (use_line opens counts n) boots
lines_with_tty d after counts boots slot n f is of there fit = record {
  lines = length-set counts n (after_use (count_at counts n) opens) ∙ fit.lines;
  live =
      λ k below.
      subst (λ g. (count_at (use_line opens counts n) k).live ≡ count_files (λ h. is_live_file g k h.target) after) (sym (generations_left counts n))
      (live-with d after counts boots slot n k f is of there below fit);
  there =
      λ entry m since g at target.
      ⊎_elim (λ (was : entry_at d.files entry ≡ Some g). fit.there entry m since g was target)
      (λ (new : f ≡ g).
      subst (λ k. k < LINES) (same-line n m (count_at counts n).generation since (sym of ∙ ap (λ h. h.target) new ∙ target)).0 there)
      (is.entries entry g at);
  early =
      λ entry m since g at target.
      subst (λ gs. since ≤ generation_at gs m) (sym (generations_left counts n))
      (⊎_elim (λ (was : entry_at d.files entry ≡ Some g). fit.early entry m since g was target)
      (λ (new : f ≡ g). own-early m since (same-line n m (count_at counts n).generation since (sym of ∙ ap (λ h. h.target) new ∙ target)))
      (is.entries entry g at));
  cooked = fit.cooked;
}
  where
    own-early : (m since : ℕ) → (n ≡ m) × ((count_at counts n).generation ≡ since) → since ≤ generation_at (generations counts) m
    own-early m since same =
        subst (λ k. since ≤ generation_at (generations counts) k) same.0
        (let seen = generation_seen counts n in let own = same.1 in omega (arith, seen, own))

-- ---- what calls see

boot-of : (b : Bool) → line.boot_termios (not b) ≡ cond b raw cooked
boot-of true = refl
boot-of false = refl

-- the settings of the boot
pub boot_seen : (d : Shared Open) (counts : List Counts) (boots : List Bool) (n : ℕ) → n < LINES → FitLines d counts boots
    → line.boot_termios (slice_index_or boots n false) ≡ boot_termios n
boot_seen d counts boots n below fit = ap line.boot_termios (fit.cooked n below) ∙ boot-of (n == RAW_LINE)

-- the line is opened
line-opened : (t : Tables) (pool : PoolState) (lines : List LineState) (n : ℕ) (settings : Termios) → settings ≡ boot_termios n
    → devices pool lines ≡ change_line (device.open_file settings) (devices t.pool t.lines) n → counts_of lines ≡ use_line opens (counts_of t.lines) n
    → seen_pipes pool t.pipes ≡ seen_pipes t.pool t.pipes
    → view_of (record t { pool = pool; lines = lines }) ≡ change (view_of t) (on_lines (open_line n (boot_termios n)))
unfolding view_of change_lines
line-opened t pool lines n settings boot is counts pipes =
    seen_as (record t { pool = pool; lines = lines }) (change (view_of t) (on_lines (open_line n (boot_termios n))))
    (ap (λ cs. seen_files t.nodes (generations cs) t.descriptors) counts
    ∙ ap (λ g. seen_files t.nodes g t.descriptors) (generations_left (counts_of t.lines) n))
    pipes
    (is ∙ ap (λ s. change_line (device.open_file s) (devices t.pool t.lines) n) boot)
    refl refl refl refl refl

not-dead : (g : ℕ) → nat_lt g g ≡ false
not-dead g = grind (arith, nat_tests)

-- and a file of it
pub tty_opened : (t : Tables) (pool : PoolState) (lines : List LineState) (after : Shared Open) (slot n since : ℕ) (settings : Termios) (access : Access)
    (flags : OpenFlags) → settings ≡ boot_termios n
    → devices pool lines ≡ change_line (device.open_file settings) (devices t.pool t.lines) n → counts_of lines ≡ use_line opens (counts_of t.lines) n
    → seen_pipes pool t.pipes ≡ seen_pipes t.pool t.pipes → since ≡ (count_at (counts_of t.lines) n).generation
    → after ≡ (open_lowest t.descriptors slot (open_for access flags (Line n since)) flags.on_exec).0
    → view_of (record t { descriptors = after; pool = pool; lines = lines }) ≡ change_all (view_of t) (tty_effects slot access flags (Some n))
tty_opened t pool lines after slot n since settings access flags boot is counts pipes own opened =
    let now : generation_at (generations (counts_of lines)) n ≡ since =
    ap (λ cs. generation_at (generations cs) n) counts ∙ ap (λ g. generation_at g n) (generations_left (counts_of t.lines) n)
    ∙ generation_seen (counts_of t.lines) n ∙ sym own in
    rw opened
    (file_opened (record t { pool = pool; lines = lines }) slot (open_for access flags (Line n since)) (file_for access flags (tty n)) flags.on_exec
    (ap (λ dead. record { file = file_for access flags (tty n); dead = dead }) (ap (nat_lt since) now ∙ not-dead since))
    ∙ ap (λ v. change v (open_target slot access flags (tty n))) (line-opened t pool lines n settings boot is counts pipes))
