-- The row of pipe(2), over the tables of a kernel.
use Rattle.std.proofs.Common.{◌≡◌, ◌≢◌, ◌⊎◌, inl, inr, ℕ, ◌+◌, ◌*◌, get_or, set, ◌<◌, ◌≤◌, Bool, true, false, not, List, [], ◌∷◌, length, Option, Some, None, Result, Ok}
use Rattle.std.proofs.Common.{refl, sym, ap, ◌∙◌, subst, arith}
use Rattle.std.specs.Prelude.{◌==◌, ◌||◌, is_some, is_none, nat_lt, slice_set}
use Rattle.std.proofs.lemmas.List.Sums.{sum_by-set}
use Rattle.std.proofs.lemmas.List.{get_or-set_same, get_or-set_other, length-map, length-set}
use Rattle.std.proofs.lemmas.Bool.Decides.{nat_tests, eqb_tells}
use Rattle.sys_types.specs.declared.limits.TheConstants.{PIPE_BLOCKS}
use Rattle.sys_types.specs.declared.rules.Rule.{Rule}
use Rattle.sys_types.specs.declared.rules.Rule.TheVariants.{Pool}
use Rattle.label_core.specs.declared.element.Element.{Element}
use Rattle.call_words.specs.declared.event.Decision.TheVariants.{Answer}
use Rattle.call_words.specs.declared.event.Reply.TheVariants.{Pair, Denied}
use Rattle.block_pool.specs.Pool.{PoolState}
use Rattle.block_pool.specs.Chain.{ChainState, holds}
use Rattle.fd_table.specs.declared.open.Open.{Open}
use Rattle.fd_table.specs.declared.open.Target.TheVariants.{PipeRead, PipeWrite}
use Rattle.fd_table.specs.Shared.{Shared, count_files, free_entries, lowest_entry, lowest_number}
use Rattle.fd_table.specs.Calls.{room_rule, refuse_or, open_lowest, open_both}
use Rattle.fd_table.specs.Calls as calls
use Rattle.fd_table.proofs.KeptLemmas.{free-entry}
use Rattle.fd_table.proofs.TableLemmas.{first-free}
use Rattle.pipe_core.specs.Pipes.{Pipes, is_there, lowest_free, free_pipes, add}
use Rattle.pipe_core.specs.Chains.{bytes_of}
use Rattle.pipe_core.proofs.MapLemmas.{is_there-map, lowest_free-map}
use Rattle.proc_table.specs.Processes.{Process, Processes, running_at}
use Rattle.tty_dev.specs.History.{Counts}
use Rattle.tty_dev.specs.Table.{devices, counts_of}
use Rattle.tree_model.specs.Tree.{NodeAt}
use Rattle.system_model.specs.Parts.{Path, read_end, write_end}
use Rattle.system_model.specs.State.{OpenFile}
use Rattle.system_model.specs.Keeping.{seeing}
use Rattle.system_model.specs.Effects.{Effect, on_pipes, change_all}
use Rattle.system_model.specs.PipeCalls.{pipe_file, open_end, pipe_row}
use Rattle.system_model.specs.PipeEffects.{add_pipe, change_pipes}
use Rattle.system_model.specs.FileEffects.{change_files}
use Rattle.system_model.specs.Rows.{answer_of, Does}
use Rattle.system_model.specs.Looks.{caller_of}
use Rattle.system_model.specs.Tables.{Tables, generations, seen_open, seen_files, seen_pipes, view_of}
use Rattle.system_model.specs.Fit.{is_end_of, FitFiles, FitSlots, FitPipes, FitLines, FitBlocks}
use Rattle.system_model.proofs.BlockLemmas.{free_seen}
use Rattle.system_model.proofs.RowLemmas.{refuses, goes_on}
use Rattle.system_model.proofs.SeenFiles.{room_seen, open_seen}
use Rattle.system_model.proofs.SeenPipes.{lowest_seen}
use Rattle.system_model.proofs.SeenProcesses.{caller_seen}
use Rattle.system_model.proofs.Views.{seen_as}
use Rattle.io_calls.proofs.OpenLemmas.{bit, IsOpened, opened, files_opened, slots_opened, lines_opened}

-- an end of a new pipe
abbrev pub reader : ℕ → Open
reader k = record { target = PipeRead k; readable = true; writable = false; append = false; nonblock = false; offset = 0 }

abbrev pub writer : ℕ → Open
writer k = record { target = PipeWrite k; readable = false; writable = true; append = false; nonblock = false; offset = 0 }

-- ---- refusals

-- the process has no room for two files
pub pipe_no_room : (t : Tables) (slot : ℕ) (rule : Rule) → room_rule t.descriptors slot 2 ≡ Some rule
    → Does (view_of t) (view_of t) (Answer (Denied rule)) (pipe_row (view_of t) slot)
unfolding view_of
pipe_no_room t slot rule is =
    refuses (view_of t) (pipe_row (view_of t) slot) rule
    (rw (room_seen t.nodes (generations (counts_of t.lines)) t.descriptors slot 2, is) refl)

room-of : (t : Tables) (slot n : ℕ) → room_rule (view_of t).descriptors slot n ≡ room_rule t.descriptors slot n
unfolding view_of
room-of t slot n = room_seen t.nodes (generations (counts_of t.lines)) t.descriptors slot n

-- too few blocks are free
pub pipe_no_blocks : (t : Tables) (slot : ℕ) → room_rule t.descriptors slot 2 ≡ None → FitBlocks t.pool t.pipes t.lines → nat_lt (length t.pool.free) PIPE_BLOCKS ≡ true
    → Does (view_of t) (view_of t) (Answer (Denied Pool)) (pipe_row (view_of t) slot)
pipe_no_blocks t slot room fit few =
    refuses (view_of t) (pipe_row (view_of t) slot) Pool (rw (room-of t slot 2, room, free_seen t fit, few) refl)

-- ---- the pipe is made

room-for : (d : Shared Open) (slot : ℕ) → room_rule d slot 2 ≡ None → 2 ≤ free_entries d.files
room-for d slot none = grind (arith, nat_tests)

-- what the row does, of an element and a number
abbrev effects_for : ℕ → Element → ℕ → List Effect
effects_for slot element k = on_pipes (add_pipe element) ∷ open_end slot (read_end k) ∷ open_end slot (write_end k) ∷ []

abbrev pub both : Shared Open → ℕ → ℕ → Shared Open × (ℕ × ℕ)
both d slot k = open_both d slot (reader k) (writer k)

-- the open files, with the two ends
ends-seen : (nodes : List (Option NodeAt)) (revokes : List ℕ) (d : Shared Open) (slot k : ℕ)
    → seen_files nodes revokes (both d slot k).0
    ≡ (open_lowest (open_lowest (seen_files nodes revokes d) slot (seeing.make (pipe_file (read_end k))) false).0 slot (seeing.make (pipe_file (write_end k))) false).0
ends-seen nodes revokes d slot k =
    open_seen nodes revokes (open_lowest d slot (reader k) false).0 slot (writer k) false
    ∙ ap (λ e. (open_lowest e slot (seen_open nodes revokes (writer k)) false).0) (open_seen nodes revokes d slot (reader k) false)

made-as : (t : Tables) (pool : PoolState) (pipes : Pipes ChainState) (slot k : ℕ) (element : Element)
    → seen_pipes pool pipes ≡ add (seen_pipes t.pool t.pipes) [] element → devices pool t.lines ≡ devices t.pool t.lines
    → view_of (record t { descriptors = (both t.descriptors slot k).0; pipes = pipes; pool = pool }) ≡ change_all (view_of t) (effects_for slot element k)
unfolding view_of change_files change_pipes
made-as t pool pipes slot k element joined lines =
    seen_as (record t { descriptors = (both t.descriptors slot k).0; pipes = pipes; pool = pool }) (change_all (view_of t) (effects_for slot element k))
    (ends-seen t.nodes (generations (counts_of t.lines)) t.descriptors slot k) joined lines refl refl refl refl refl

numbers-as : (t : Tables) (slot k : ℕ) → k ≡ lowest_free (view_of t).pipes
    → Answer (Pair (both t.descriptors slot k).1.0 (both t.descriptors slot k).1.1) ≡ answer_of (pipe_row (view_of t) slot).answer
unfolding view_of change_files
numbers-as t slot k lowest =
    ap (λ (e : Shared OpenFile). Answer (Pair (lowest_number t.descriptors.table slot) (lowest_number e.table slot)))
    (open_seen t.nodes (generations (counts_of t.lines)) t.descriptors slot (reader k) false)
    ∙ ap (λ n. Answer (Pair (lowest_number t.descriptors.table slot)
    (lowest_number (open_lowest (view_of t).descriptors slot (seeing.make (pipe_file (read_end n))) false).0.table slot))) lowest

lowest-of : (t : Tables) → lowest_free (view_of t).pipes ≡ lowest_free t.pipes
unfolding view_of
lowest-of t = lowest_seen t.pool t.pipes

pipes-of : (t : Tables) → (view_of t).pipes ≡ seen_pipes t.pool t.pipes
unfolding view_of
pipes-of t = refl

-- the pipe, and then its two ends
pub pipe_answered : (t : Tables) (pool : PoolState) (pipes : Pipes ChainState) (slot : ℕ) (p : Process ℕ) (k : ℕ) → room_rule t.descriptors slot 2 ≡ None
    → FitBlocks t.pool t.pipes t.lines → nat_lt (length t.pool.free) PIPE_BLOCKS ≡ false → running_at t.processes slot ≡ Some p → k ≡ lowest_free t.pipes
    → seen_pipes pool pipes ≡ add (seen_pipes t.pool t.pipes) [] p.label.active → devices pool t.lines ≡ devices t.pool t.lines
    → Does (view_of t) (view_of (record t { descriptors = (both t.descriptors slot k).0; pipes = pipes; pool = pool }))
    (Answer (Pair (both t.descriptors slot k).1.0 (both t.descriptors slot k).1.1)) (pipe_row (view_of t) slot)
pipe_answered t pool pipes slot p k room fit enough running lowest joined lines =
    let number = lowest ∙ sym (lowest-of t) in
    let does =
    goes_on (view_of t) (view_of (record t { descriptors = (both t.descriptors slot k).0; pipes = pipes; pool = pool })) (pipe_row (view_of t) slot)
    (rw (room-of t slot 2, room, free_seen t fit, enough) refl)
    (made-as t pool pipes slot k p.label.active joined lines
    ∙ ap (λ (who : Process Path). change_all (view_of t) (effects_for slot who.label.active k)) (sym (caller_seen t slot p running))
    ∙ ap (λ n. change_all (view_of t) (effects_for slot (caller_of (view_of t) slot).label.active n)) number) in
    subst (λ d. Does (view_of t) (view_of (record t { descriptors = (both t.descriptors slot k).0; pipes = pipes; pool = pool })) d (pipe_row (view_of t) slot))
    (sym (numbers-as t slot k number)) does

-- ---- what fits

free-after : (files : List (Option Open)) (i : ℕ) (f : Open) → i < length files → get_or files i None ≡ None → free_entries (set files i (Some f)) + 1 ≡ free_entries files
free-after files i f inside none =
    let all = sum_by-set (λ (o : Option Open). bit (is_none o)) files i (Some f) None inside in
    let was : bit (is_none (get_or files i None)) ≡ 1 = ap (λ (o : Option Open). bit (is_none o)) none in
    omega (arith, all, was)

-- one entry fewer is free
one-taken : (d : Shared Open) (slot : ℕ) (f : Open) → 1 ≤ free_entries d.files → free_entries (open_lowest d slot f false).0.files + 1 ≡ free_entries d.files
one-taken d slot f room =
    let inside = first-free d.files room in
    free-after d.files (lowest_entry d.files) f inside (free-entry d.files inside)

-- the end that is read is opened, and then the one that is written
pub first_opened : (d : Shared Open) (slot k : ℕ) → room_rule d slot 2 ≡ None → IsOpened d (open_lowest d slot (reader k) false).0 slot (reader k)
first_opened d slot k none = (let room = room-for d slot none in opened d slot (reader k) false (omega (arith, room)))

pub second_opened : (d : Shared Open) (slot k : ℕ) → room_rule d slot 2 ≡ None
    → IsOpened (open_lowest d slot (reader k) false).0 (both d slot k).0 slot (writer k)
second_opened d slot k none =
    let room = room-for d slot none in
    let taken = one-taken d slot (reader k) (omega (arith, room)) in
    opened (open_lowest d slot (reader k) false).0 slot (writer k) false (omega (arith, room, taken))

pub files_made : (nodes : List (Option NodeAt)) (d : Shared Open) (slot k : ℕ) → room_rule d slot 2 ≡ None → FitFiles nodes d → FitFiles nodes (both d slot k).0
files_made nodes d slot k none fit =
    files_opened nodes (open_lowest d slot (reader k) false).0 (both d slot k).0 slot (writer k) (second_opened d slot k none) (λ number is. cc)
    (files_opened nodes d (open_lowest d slot (reader k) false).0 slot (reader k) (first_opened d slot k none) (λ number is. cc) fit)

pub slots_made : (d : Shared Open) (slot k : ℕ) (processes : Processes ℕ) → room_rule d slot 2 ≡ None → is_some (running_at processes slot) ≡ true
    → FitSlots d processes → FitSlots (both d slot k).0 processes
slots_made d slot k processes none running fit =
    slots_opened (open_lowest d slot (reader k) false).0 (both d slot k).0 slot (writer k) processes (second_opened d slot k none) running
    (slots_opened d (open_lowest d slot (reader k) false).0 slot (reader k) processes (first_opened d slot k none) running fit)

pub lines_made : (d : Shared Open) (slot k : ℕ) (counts : List Counts) (boots : List Bool) → room_rule d slot 2 ≡ None → FitLines d counts boots
    → FitLines (both d slot k).0 counts boots
lines_made d slot k counts boots none fit =
    lines_opened (open_lowest d slot (reader k) false).0 (both d slot k).0 slot (writer k) counts boots (second_opened d slot k none) (λ n since is. cc)
    (lines_opened d (open_lowest d slot (reader k) false).0 slot (reader k) counts boots (first_opened d slot k none) (λ n since is. cc) fit)

-- which pipes are there
there-added : (pipes : Pipes (List ℕ)) (element : Element) (j k : ℕ) → j < length pipes
    → is_there (slice_set pipes j (Some (record { contents = []; element = element }))) k ≡ (is_there pipes k || (j == k))
there-added pipes element j k inside = by_number (eqb_tells j k)
  where
    or_true : (t : Bool) → true ≡ (t || true)
    or_true true = refl
    or_true false = refl

    or_false : (t : Bool) → t ≡ (t || false)
    or_false true = refl
    or_false false = refl

    by_number : ((j == k) ≡ true) × (j ≡ k) ⊎ ((j == k) ≡ false) × (j ≢ k)
        → is_there (slice_set pipes j (Some (record { contents = []; element = element }))) k ≡ (is_there pipes k || (j == k))
    by_number (inl same) =
        rw same.0
        (subst (λ i. is_there (slice_set pipes j (Some (record { contents = []; element = element }))) i ≡ (is_there pipes i || true)) same.1
        (ap is_some (get_or-set_same pipes j (Some (record { contents = []; element = element })) None inside) ∙ or_true (is_there pipes j)))
    by_number (inr other) =
        rw other.0
        (ap is_some (get_or-set_other pipes j k (Some (record { contents = []; element = element })) None (λ is. other.1 (sym is))) ∙ or_false (is_there pipes k))

pub there_made : (old new : PoolState) (before after : Pipes ChainState) (element : Element) (k : ℕ) → 0 < free_pipes before
    → bytes_of new after ≡ add (bytes_of old before) [] element → is_there after k ≡ (is_there before k || (lowest_free before == k))
there_made old new before after element k free joined =
    sym (is_there-map (holds new) after k)
    ∙ ap (λ ps. is_there ps k) joined
    ∙ there-added (bytes_of old before) element (lowest_free (bytes_of old before)) k
    (subst (λ n. lowest_free (bytes_of old before) < n) (sym (length-map before _))
    (subst (λ n. n < length before) (sym (lowest_free-map (holds old) before)) (first-free before free)))
    ∙ ap (λ t. t || (lowest_free (bytes_of old before) == k)) (is_there-map (holds old) before k)
    ∙ ap (λ n. is_there before k || (n == k)) (lowest_free-map (holds old) before)

pub places_made : (old new : PoolState) (before after : Pipes ChainState) (element : Element) → bytes_of new after ≡ add (bytes_of old before) [] element
    → length after ≡ length before
places_made old new before after element joined =
    sym (length-map after _) ∙ ap length joined ∙ length-set (bytes_of old before) (lowest_free (bytes_of old before)) _ ∙ length-map before _

ends-one : (j k : ℕ) → bit (is_end_of k (PipeRead j)) + bit (is_end_of k (PipeWrite j)) ≡ 2 * bit (j == k)
ends-one j k = by_number (j == k)
  where
    by_number : (b : Bool) → bit b + bit b ≡ 2 * bit b
    by_number true = refl
    by_number false = refl

pub pipes_made : (d : Shared Open) (slot k : ℕ) (before after : Pipes ChainState) → room_rule d slot 2 ≡ None → length after ≡ length before
    → ((j : ℕ) → is_there after j ≡ (is_there before j || (k == j))) → FitPipes d before → FitPipes (both d slot k).0 after
pipes_made d slot k before after none places there fit = record {
  places = places ∙ fit.places;
  ends =
      λ j.
      (let first = (first_opened d slot k none).counts (λ f. is_end_of j f.target) in
      let second = (second_opened d slot k none).counts (λ f. is_end_of j f.target) in
      let ends = ends-one k j in
      there j ∙ ap (λ t. t || (k == j)) (fit.ends j)
      ∙ counted (k == j) (count_files (λ f. is_end_of j f.target) d) (count_files (λ f. is_end_of j f.target) (both d slot k).0) (omega (arith, first, second, ends)));
}
  where
    counted : (b : Bool) (n m : ℕ) → m ≡ n + 2 * bit b → (not (n == 0) || b) ≡ not (m == 0)
    counted true n m sum = (let some : (m == 0) ≡ false = grind (arith, nat_tests) in rw some (or_true (not (n == 0))))
      where
        or_true : (t : Bool) → (t || true) ≡ true
        or_true true = refl
        or_true false = refl
    counted false n m sum = (let same : m ≡ n = omega (arith, sum) in rw same (or_false (not (n == 0))))
      where
        or_false : (t : Bool) → (t || false) ≡ t
        or_false true = refl
        or_false false = refl

-- ---- what the table of descriptors answers

abbrev Answered : Type 0
Answered = Shared Open × Result (ℕ × ℕ) Rule

pair-of : (d left : Shared Open) (slot k : ℕ) (answer : Result (ℕ × ℕ) Rule) → room_rule d slot 2 ≡ None → (left, answer) ≡ calls.open_pair d slot (reader k) (writer k)
    → (left, answer) ≡ refuse_or None d (both d slot k)
pair-of d left slot k answer none is = is ∙ ap (λ r. refuse_or r d (both d slot k)) none

pub left_by_pair : (d left : Shared Open) (slot k : ℕ) (answer : Result (ℕ × ℕ) Rule) → room_rule d slot 2 ≡ None
    → (left, answer) ≡ calls.open_pair d slot (reader k) (writer k) → left ≡ (both d slot k).0
left_by_pair d left slot k answer none is = ap (λ (p : Answered). p.0) (pair-of d left slot k answer none is)

pub answer_by_pair : (d left : Shared Open) (slot k : ℕ) (answer : Result (ℕ × ℕ) Rule) → room_rule d slot 2 ≡ None
    → (left, answer) ≡ calls.open_pair d slot (reader k) (writer k) → answer ≡ Ok (both d slot k).1
answer_by_pair d left slot k answer none is = ap (λ (p : Answered). p.1) (pair-of d left slot k answer none is)

ok-pair : (p q : ℕ × ℕ) (answer : Result (ℕ × ℕ) Rule) → answer ≡ Ok p → answer ≡ Ok q → p ≡ q
ok-pair p q answer is same = cc

pub numbers_by_pair : (d left : Shared Open) (slot k : ℕ) (answer : Result (ℕ × ℕ) Rule) (numbers : ℕ × ℕ) → room_rule d slot 2 ≡ None
    → (left, answer) ≡ calls.open_pair d slot (reader k) (writer k) → answer ≡ Ok numbers → (both d slot k).1 ≡ numbers
numbers_by_pair d left slot k answer numbers none is ok = ok-pair (both d slot k).1 numbers answer (answer_by_pair d left slot k answer none is) ok

-- the pipe that joins, as calls see it
pub added : (t : Tables) (old new : PoolState) (before after : Pipes ChainState) (element active : Element) → t.pipes ≡ before → t.pool ≡ old → element ≡ active
    → bytes_of new after ≡ add (bytes_of old before) [] element → seen_pipes new after ≡ add (seen_pipes t.pool t.pipes) [] active
unfolding seen_pipes
added t old new before after element active pipes pool same joined = rw (pipes, pool, ← same) joined
