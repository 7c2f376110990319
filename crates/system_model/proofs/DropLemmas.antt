-- What the table of descriptors keeps when a descriptor is dropped, and that pipes and lines fit it again once its file is released.
use Rattle.std.proofs.Common.{◌≡◌, ◌≢◌, ◌⊎◌, inl, inr, ℕ, zero, suc, ◌+◌, ◌-◌, ◌<◌, ◌≤◌, Bool, true, false, cond, not, List, [], ◌∷◌, length, get_or, set, Option, Some, None}
use Rattle.std.proofs.Common.{refl, sym, ap, ◌∙◌, subst, arith}
use Rattle.std.specs.Prelude.{◌==◌, ◌&&◌, nat_lt, count_by, is_some, Result, Ok}
use Rattle.sys_types.specs.declared.rules.Rule.{Rule}
use Rattle.std.proofs.lemmas.Bool.Decides.{nat_tests, eqb_tells}
use Rattle.std.proofs.lemmas.List.{get_or-set_same, get_or-set_other, get_or_past, length-set}
use Rattle.std.proofs.lemmas.List.Sums.{sum_by-set}
use Rattle.sys_types.specs.declared.limits.TheConstants.{LINES}
use Rattle.block_pool.specs.Chain.{ChainState}
use Rattle.fd_table.specs.declared.open.Open.{Open}
use Rattle.fd_table.specs.declared.open.Descriptor.{Descriptor}
use Rattle.fd_table.specs.declared.open.Target.{Target as KernelTarget}
use Rattle.fd_table.specs.declared.open.Target.TheVariants.{File as FileOf, PipeRead, PipeWrite, Line}
use Rattle.fd_table.specs.Shared.{Shared, Table, descriptor_at, put, references, entry_at, files_after, unreferenced, file_at, drop_number, last_file, holds, count_files}
use Rattle.fd_table.specs.Calls.{close}
use Rattle.pipe_core.specs.Pipes.{Pipes, is_there}
use Rattle.proc_table.specs.Processes.{Processes}
use Rattle.tree_model.specs.Tree.{NodeAt}
use Rattle.tty_dev.specs.History.{Counts, at_first, closes, after_use}
use Rattle.tty_dev.specs.Table.{count_at, use_line, is_dead_at}
use Rattle.system_model.specs.Tables.{generations, generation_at}
use Rattle.system_model.specs.Fit.{is_end_of, is_live_file, FitFiles, FitSlots, FitPipes, FitLines}
use Rattle.system_model.specs.Closing.{has_no_end, IsReleasable, is_there_after, counts_after}
use Rattle.system_model.proofs.ClosingLemmas.{generations_after, generation_seen, last_of, left_of}

abbrev pub bit : Bool → ℕ
bit b = cond b 1 0

-- a table of which one descriptor was dropped, and with it this file, if no other refers to it
pub record IsLeft (d left : Shared Open) (last : Option Open) : Type 0 where
  pub counts : (test : Open → Bool) → count_files test left + bit (holds test last) ≡ count_files test d
  pub entries : (entry : ℕ) (f : Open) → entry_at left.files entry ≡ Some f → entry_at d.files entry ≡ Some f
  pub from : (f : Open) → last ≡ Some f → (entry : ℕ) × (entry_at d.files entry ≡ Some f)

entry-within : (files : List (Option Open)) (i : ℕ) (f : Open) → get_or files i None ≡ Some f → i < length files
entry-within files i f is = grind (arith, get_or_past)

-- ---- one entry is emptied

count-emptied : (test : Open → Bool) (files : List (Option Open)) (i : ℕ) → i < length files
    → count_by (holds test) (set files i None) + bit (holds test (get_or files i None)) ≡ count_by (holds test) files
count-emptied test files i inside =
    let all = sum_by-set (λ (o : Option Open). bit (holds test o)) files i None None inside in
    omega (arith, all)

emptied-past : (files : List (Option Open)) (i : ℕ) → get_or files i None ≡ None → set files i None ≡ files
emptied-past [] i is = refl
emptied-past (x ∷ files) zero is = ap (λ y. y ∷ files) (sym is)
emptied-past (x ∷ files) (suc i) is = ap (λ fs. x ∷ fs) (emptied-past files i is)

emptied-entries : (files : List (Option Open)) (i entry : ℕ) (f : Open) → get_or (set files i None) entry None ≡ Some f → get_or files entry None ≡ Some f
emptied-entries [] i entry f is = is
emptied-entries (x ∷ files) zero zero f is = cc
emptied-entries (x ∷ files) zero (suc entry) f is = is
emptied-entries (x ∷ files) (suc i) zero f is = is
emptied-entries (x ∷ files) (suc i) (suc entry) f is = emptied-entries files i entry f is

emptied-count : (test : Open → Bool) (files : List (Option Open)) (i : ℕ)
    → count_by (holds test) (set files i None) + bit (holds test (get_or files i None)) ≡ count_by (holds test) files
emptied-count test files i = by_entry (get_or files i None) refl
  where
    by_entry : (o : Option Open) → get_or files i None ≡ o → count_by (holds test) (set files i None) + bit (holds test (get_or files i None)) ≡ count_by (holds test) files
    by_entry None is = rw (emptied-past files i is, is) (omega arith)
    by_entry (Some f) is = count-emptied test files i (entry-within files i f is)

left-files : (d : Shared Open) (what : Option Descriptor) (after table : Table)
    → IsLeft d (record { table = table; files = files_after what after d.files }) (unreferenced what after d.files)
left-files d None after table = record {
  counts = λ test. omega arith;
  entries = λ entry f is. is;
  from = λ f is. cc;
}
left-files d (Some x) after table = by_references (references x.entry after == 0)
  where
    by_references : (b : Bool) → IsLeft d (record { table = table; files = cond b (set d.files x.entry None) d.files }) (cond b (entry_at d.files x.entry) None)
    by_references true = record {
      counts = λ test. emptied-count test d.files x.entry;
      entries = λ entry f is. emptied-entries d.files x.entry entry f is;
      from = λ f is. (x.entry, is);
    }
    by_references false = record {
      counts = λ test. omega arith;
      entries = λ entry f is. is;
      from = λ f is. cc;
    }

-- a descriptor is dropped
pub drop_left : (d : Shared Open) (slot number : ℕ) → IsLeft d (drop_number d slot number) (last_file d slot number)
drop_left d slot number = left-files d (descriptor_at d.table slot number) (put d.table slot number None) (put d.table slot number None)

-- an open number is closed
pub close_left : (d left : Shared Open) (slot fd : ℕ) (answer : Result (Option Open) Rule) (last : Option Open) → is_some (file_at d slot fd) ≡ true
    → (left, answer) ≡ close d slot fd → answer ≡ Ok last → IsLeft d left last
close_left d left slot fd answer last is closed ok =
    subst (λ f. IsLeft d left f) (last_of d left slot fd answer last is closed ok)
    (subst (λ e. IsLeft d e (last_file d slot fd)) (sym (left_of d left slot fd answer is closed)) (drop_left d slot fd))

-- ---- what fits

-- each open file of a node is of a regular file
pub files_left : (nodes : List (Option NodeAt)) (d left : Shared Open) (last : Option Open) → IsLeft d left last → FitFiles nodes d → FitFiles nodes left
files_left nodes d left last is fit = record { live = λ entry n f here. fit.live entry n f (is.entries entry f here) }

dropped-row : (row : List (Option Descriptor)) (i n : ℕ) (x : Descriptor) → get_or (set row i None) n None ≡ Some x → get_or row n None ≡ Some x
dropped-row [] i n x is = is
dropped-row (y ∷ row) zero zero x is = cc
dropped-row (y ∷ row) zero (suc n) x is = is
dropped-row (y ∷ row) (suc i) zero x is = is
dropped-row (y ∷ row) (suc i) (suc n) x is = dropped-row row i n x is

dropped-table : (table : Table) (slot number s n : ℕ) (x : Descriptor) → descriptor_at (put table slot number None) s n ≡ Some x → descriptor_at table s n ≡ Some x
dropped-table [] slot number s n x is = is
dropped-table (row ∷ table) zero number zero n x is = dropped-row row number n x is
dropped-table (row ∷ table) zero number (suc s) n x is = is
dropped-table (row ∷ table) (suc slot) number zero n x is = is
dropped-table (row ∷ table) (suc slot) number (suc s) n x is = dropped-table table slot number s n x is

-- only slots with a running process have descriptors
pub slots_left : (d : Shared Open) (slot number : ℕ) (processes : Processes ℕ) → FitSlots d processes → FitSlots (drop_number d slot number) processes
slots_left d slot number processes fit = record { running = λ s n x is. fit.running s n x (dropped-table d.table slot number s n x is) }

-- ---- no file goes

pub pipes_fit_still : (d left : Shared Open) (pipes : Pipes ChainState) → IsLeft d left None → FitPipes d pipes → FitPipes left pipes
pipes_fit_still d left pipes is fit = record {
  places = fit.places;
  ends = λ k. (let all = is.counts (λ f. is_end_of k f.target) in fit.ends k ∙ ap (λ n. not (n == 0)) (omega (arith, all)));
}

pub lines_fit_still : (d left : Shared Open) (counts : List Counts) (boots : List Bool) → IsLeft d left None → FitLines d counts boots → FitLines left counts boots
lines_fit_still d left counts boots is fit = record {
  lines = fit.lines;
  live = λ n below. (let all = is.counts (λ f. is_live_file (generations counts) n f.target) in fit.live n below ∙ omega (arith, all));
  there = λ entry n opened f here. fit.there entry n opened f (is.entries entry f here);
  early = λ entry n opened f here. fit.early entry n opened f (is.entries entry f here);
  cooked = fit.cooked;
}

-- ---- a file goes

live-own : (counts : List Counts) (n opened : ℕ) → is_dead_at counts n opened ≡ false → is_live_file (generations counts) n (Line n opened) ≡ true
live-own counts n opened alive =
    let same = eqb_tells n n in
    rw (generation_seen counts n, alive) (grind (arith, nat_tests))

pub releasable : (d left : Shared Open) (pipes : Pipes ChainState) (counts : List Counts) (boots : List Bool) (f : Open) → IsLeft d left (Some f)
    → FitPipes d pipes → FitLines d counts boots → IsReleasable left pipes counts f.target
releasable d left pipes counts boots f is fit_pipes fit_lines = record {
  pipe =
      λ k end.
      (let all = is.counts (λ g. is_end_of k g.target) in
      let one : bit (is_end_of k f.target) ≡ 1 = ap bit end in
      let some : (count_files (λ g. is_end_of k g.target) d == 0) ≡ false = grind (arith, nat_tests) in
      fit_pipes.ends k ∙ ap not some);
  line = λ n opened of. (let at = is.from f refl in subst (λ m. n < m) (sym fit_lines.lines) (fit_lines.there at.0 n opened f at.1 of));
  live =
      λ n opened of alive.
      (let at = is.from f refl in
      let below : n < LINES = fit_lines.there at.0 n opened f at.1 of in
      let all = is.counts (λ g. is_live_file (generations counts) n g.target) in
      let here : is_live_file (generations counts) n f.target ≡ true = ap (is_live_file (generations counts) n) of ∙ live-own counts n opened alive in
      let one : bit (is_live_file (generations counts) n f.target) ≡ 1 = ap bit here in
      fit_lines.live n below ∙ omega (arith, all, one));
}

pub pipes_fit_after : (d left : Shared Open) (before after : Pipes ChainState) (f : Open) → IsLeft d left (Some f) → FitPipes d before → length after ≡ length before
    → ((k : ℕ) → is_there after k ≡ is_there_after left f.target k (is_there before k)) → FitPipes left after
pipes_fit_after d left before after f is fit places there = record {
  places = places ∙ fit.places;
  ends =
      λ k.
      (let all = is.counts (λ g. is_end_of k g.target) in
      there k ∙ ap (λ t. t && not (is_end_of k f.target && has_no_end left k)) (fit.ends k)
      ∙ counted (is_end_of k f.target) (count_files (λ g. is_end_of k g.target) left) (count_files (λ g. is_end_of k g.target) d) all);
}
  where
    counted : (b : Bool) (n m : ℕ) → n + bit b ≡ m → (not (m == 0) && not (b && (n == 0))) ≡ not (n == 0)
    counted true n m all = (let some : (m == 0) ≡ false = grind (arith, nat_tests) in rw some refl)
    counted false n m all = (let same : m ≡ n = omega (arith, all) in rw same (and_true (not (n == 0))))
      where
        and_true : (t : Bool) → (t && true) ≡ t
        and_true true = refl
        and_true false = refl

-- the test of a live file depends on how often lines were revoked alone
same-revokes : (revokes others : List ℕ) (n m : ℕ) (d : Shared Open) → revokes ≡ others → m ≡ count_files (λ f. is_live_file revokes n f.target) d
    → m ≡ count_files (λ f. is_live_file others n f.target) d
same-revokes revokes others n m d same is = subst (λ rs. m ≡ count_files (λ f. is_live_file rs n f.target) d) same is

-- a file that is none of a line
other-live : (d left : Shared Open) (counts : List Counts) (n : ℕ) (f : Open) → IsLeft d left (Some f) → is_live_file (generations counts) n f.target ≡ false
    → count_files (λ g. is_live_file (generations counts) n g.target) d ≡ count_files (λ g. is_live_file (generations counts) n g.target) left
other-live d left counts n f is not_live =
    let all = is.counts (λ g. is_live_file (generations counts) n g.target) in
    let none : bit (is_live_file (generations counts) n f.target) ≡ 0 = ap bit not_live in
    omega (arith, all, none)

and_false : (t : Bool) → (t && false) ≡ false
and_false true = refl
and_false false = refl

-- the live files of a line after the close of one of it
live-after : (d left : Shared Open) (counts : List Counts) (boots : List Bool) (f : Open) (line opened n : ℕ) → IsLeft d left (Some f) → FitLines d counts boots
    → f.target ≡ Line line opened → n < LINES
    → (count_at (use_line (closes opened) counts line) n).live ≡ count_files (λ g. is_live_file (generations counts) n g.target) left
live-after d left counts boots f line opened n is fit of below = by_line (eqb_tells line n)
  where
    all : count_files (λ g. is_live_file (generations counts) n g.target) left + bit (is_live_file (generations counts) n f.target)
        ≡ count_files (λ g. is_live_file (generations counts) n g.target) d
    all = is.counts (λ g. is_live_file (generations counts) n g.target)

    test : bit (is_live_file (generations counts) n f.target) ≡ bit (not (is_dead_at counts line opened) && (line == n))
    test = ap (λ target. bit (is_live_file (generations counts) n target)) of ∙ ap (λ g. bit (not (nat_lt opened g) && (line == n))) (generation_seen counts line)

    here : line ≡ n → count_at (use_line (closes opened) counts line) n ≡ after_use (count_at counts line) (closes opened)
    here same =
        ap (count_at (use_line (closes opened) counts line)) (sym same)
        ∙ get_or-set_same counts line (after_use (count_at counts line) (closes opened)) at_first (subst (λ m. line < m) (sym fit.lines) (subst (λ m. m < LINES) (sym same) below))

    by_dead : line ≡ n → (b : Bool) → is_dead_at counts line opened ≡ b
        → (cond b (count_at counts line) (record (count_at counts line) { live = (count_at counts line).live - 1 })).live
        ≡ count_files (λ g. is_live_file (generations counts) n g.target) left
    by_dead same true dead =
        (let none : bit (is_live_file (generations counts) n f.target) ≡ 0 = test ∙ ap (λ b. bit (not b && (line == n))) dead in
        let was = fit.live n below in
        ap (λ m. (count_at counts m).live) same ∙ was ∙ omega (arith, all, none))
    by_dead same false alive =
        (let equal : (line == n) ≡ true = grind (arith, nat_tests) in
        let one : bit (is_live_file (generations counts) n f.target) ≡ 1 = test ∙ ap (λ b. bit (not b && (line == n))) alive ∙ ap bit equal in
        let was = fit.live n below in
        ap (λ m. (count_at counts m).live - 1) same ∙ omega (arith, all, one, was))

    by_line : ((line == n) ≡ true) × (line ≡ n) ⊎ ((line == n) ≡ false) × (line ≢ n)
        → (count_at (use_line (closes opened) counts line) n).live ≡ count_files (λ g. is_live_file (generations counts) n g.target) left
    by_line (inl same) = ap (λ c. c.live) (here same.1) ∙ by_dead same.1 (is_dead_at counts line opened) refl
    by_line (inr other) =
        (let not_live : is_live_file (generations counts) n f.target ≡ false =
        ap (is_live_file (generations counts) n) of ∙ ap (λ b. not (nat_lt opened (generation_at (generations counts) line)) && b) other.0 ∙ and_false _ in
        ap (λ c. c.live) (get_or-set_other counts line n (after_use (count_at counts line) (closes opened)) at_first (λ same. other.1 (sym same)))
        ∙ fit.live n below ∙ other-live d left counts n f is not_live)

lines-same : (d left : Shared Open) (counts : List Counts) (boots : List Bool) (f : Open) → IsLeft d left (Some f) → FitLines d counts boots
    → ((n : ℕ) → is_live_file (generations counts) n f.target ≡ false) → FitLines left counts boots
lines-same d left counts boots f is fit not_live = record {
  lines = fit.lines;
  live = λ n below. fit.live n below ∙ other-live d left counts n f is (not_live n);
  there = λ entry n opened g here. fit.there entry n opened g (is.entries entry g here);
  early = λ entry n opened g here. fit.early entry n opened g (is.entries entry g here);
  cooked = fit.cooked;
}

lines-after : (d left : Shared Open) (counts : List Counts) (boots : List Bool) (f : Open) (target : KernelTarget) → f.target ≡ target → IsLeft d left (Some f)
    → FitLines d counts boots → FitLines left (counts_after target counts) boots
lines-after d left counts boots f (FileOf number) of is fit = lines-same d left counts boots f is fit (λ n. ap (is_live_file (generations counts) n) of)
lines-after d left counts boots f (PipeRead k) of is fit = lines-same d left counts boots f is fit (λ n. ap (is_live_file (generations counts) n) of)
lines-after d left counts boots f (PipeWrite k) of is fit = lines-same d left counts boots f is fit (λ n. ap (is_live_file (generations counts) n) of)
lines-after d left counts boots f (Line line opened) of is fit = record {
  lines = length-set counts line (after_use (count_at counts line) (closes opened)) ∙ fit.lines;
  live =
      λ n below.
      same-revokes (generations counts) (generations (use_line (closes opened) counts line)) n _ left (sym (generations_after counts line opened))
      (live-after d left counts boots f line opened n is fit of below);
  there = λ entry n since g here. fit.there entry n since g (is.entries entry g here);
  early =
      λ entry n since g here target.
      subst (λ revokes. since ≤ generation_at revokes n) (sym (generations_after counts line opened)) (fit.early entry n since g (is.entries entry g here) target);
  cooked = fit.cooked;
}

-- the lines count what is left
pub lines_fit_after : (d left : Shared Open) (counts : List Counts) (boots : List Bool) (f : Open) → IsLeft d left (Some f) → FitLines d counts boots
    → FitLines left (counts_after f.target counts) boots
lines_fit_after d left counts boots f is fit = lines-after d left counts boots f f.target refl is fit
