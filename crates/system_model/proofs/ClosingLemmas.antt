-- What goes with the last descriptor of an open file, as calls see it.
use Rattle.std.proofs.Common.{◌≡◌, ◌≢◌, ◌⊎◌, inl, inr, ℕ, zero, suc, ◌+◌, ◌-◌, Bool, true, false, cond, not, List, [], ◌∷◌, length, map, get_or, set, Some, None, option_map, refl, sym, ap}
use Rattle.std.proofs.Common.{◌∙◌, subst, arith}
use Rattle.std.specs.Prelude.{◌==◌, ◌&&◌, nat_le, nat_lt, is_some, is_none, Option, Result, Ok, Err, if◌then◌else◌}
use Rattle.sys_types.specs.declared.rules.Rule.{Rule}
use Rattle.sys_types.specs.declared.rules.Rule.TheVariants.{BadFd}
use Rattle.std.proofs.lemmas.List.{get_or-set_other, length-map, length-set, map-set, set-get_or}
use Rattle.block_pool.specs.Pool.{PoolState}
use Rattle.block_pool.specs.Chain.{ChainState, holds}
use Rattle.fd_table.specs.declared.open.Open.{Open}
use Rattle.fd_table.specs.Shared.{Shared, file_at, count_files, drop_number, last_file}
use Rattle.fd_table.specs.Calls.{close}
use Rattle.pipe_core.specs.Pipes.{Pipes, is_there, remove}
use Rattle.pipe_core.proofs.MapLemmas.{is_there-map}
use Rattle.pipe_core.specs.Chains.{bytes_of}
use Rattle.line_disc.specs.Device.{Device, close_last}
use Rattle.line_disc.specs.Lines.{change_line}
use Rattle.tty_dev.specs.Line.{LineState}
use Rattle.tty_dev.specs.History.{Counts, closes, after_use}
use Rattle.tty_dev.specs.Table.{devices, counts_of, count_at, use_line}
use Rattle.system_model.specs.State.{View}
use Rattle.system_model.specs.Keeping.{seeing}
use Rattle.system_model.specs.FileEffects.{close_fd, release_pipe, release_line, release_target, release, change_files}
use Rattle.system_model.specs.Effects.{on_files, change}
use Rattle.system_model.specs.Tables.{Tables, generations, generation_at, is_dead_target, seen_target, seen_open, seen_files, seen_pipes, view_of}
use Rattle.system_model.specs.Fit.{is_live_file}
use Rattle.system_model.specs.Closing.{has_no_end}
use Rattle.system_model.proofs.SeenCounts.{ends_seen, live_seen}
use Rattle.system_model.proofs.SeenFiles.{drop_seen, last_seen}
use Rattle.system_model.proofs.Views.{seen_as}
use Rattle.std.proofs.lemmas.Bool.Decides.{nat_tests, eqb_tells}

abbrev with_pipes : View → Pipes (List ℕ) → View
with_pipes v pipes = record v { pipes = pipes }

-- a pipe goes with its last end
pub pipe_released : (t : Tables) (pool : PoolState) (pipes : Pipes ChainState) (k : ℕ)
    → bytes_of pool pipes ≡ (if has_no_end t.descriptors k then remove (bytes_of t.pool t.pipes) k else bytes_of t.pool t.pipes)
    → devices pool t.lines ≡ devices t.pool t.lines
    → view_of (record t { pipes = pipes; pool = pool }) ≡ release_pipe seeing (view_of t) k
unfolding view_of seen_pipes
pipe_released t pool pipes k bytes lines =
    seen_as (record t { pipes = pipes; pool = pool }) (with_pipes (view_of t) (bytes_of pool pipes)) refl refl lines refl refl refl refl refl
    ∙ ap (with_pipes (view_of t)) bytes
    ∙ chosen (has_no_end t.descriptors k)
    ∙ ap (λ n. cond (n == 0) (with_pipes (view_of t) (remove (bytes_of t.pool t.pipes) k)) (view_of t))
    (sym (ends_seen t.nodes (generations (counts_of t.lines)) k t.descriptors))
  where
    chosen : (b : Bool) → with_pipes (view_of t) (cond b (remove (bytes_of t.pool t.pipes) k) (bytes_of t.pool t.pipes))
        ≡ cond b (with_pipes (view_of t) (remove (bytes_of t.pool t.pipes) k)) (view_of t)
    chosen true = refl
    chosen false = refl

abbrev with_lines : View → List (Device ℕ) → View
with_lines v lines = record v { lines = lines }

-- a line is closed with its last live file; a dead one's close leaves it
pub line_released : (t : Tables) (pool : PoolState) (lines : List LineState) (n : ℕ) (dead : Bool) (live : ℕ)
    → (dead ≡ false → live ≡ count_files (λ f. is_live_file (generations (counts_of t.lines)) n f.target) t.descriptors + 1)
    → devices pool lines ≡ (if not dead && nat_le live 1 then change_line close_last (devices t.pool t.lines) n else devices t.pool t.lines)
    → generations (counts_of lines) ≡ generations (counts_of t.lines) → seen_pipes pool t.pipes ≡ seen_pipes t.pool t.pipes
    → view_of (record t { pool = pool; lines = lines }) ≡ cond dead (view_of t) (release_line seeing (view_of t) n)
unfolding view_of
line_released t pool lines n dead live counted changed same pipes =
    seen_as (record t { pool = pool; lines = lines }) (with_lines (view_of t) (devices pool lines))
    (ap (λ revokes. seen_files t.nodes revokes t.descriptors) same) pipes refl refl refl refl refl refl
    ∙ ap (with_lines (view_of t)) changed
    ∙ by_dead dead counted
  where
    left : ℕ
    left = count_files (λ f. is_live_file (generations (counts_of t.lines)) n f.target) t.descriptors

    closed : List (Device ℕ)
    closed = change_line close_last (devices t.pool t.lines) n

    last : (count : ℕ) → nat_le (count + 1) 1 ≡ (count == 0)
    last count = grind (arith, nat_tests)

    chosen : (b : Bool) → with_lines (view_of t) (cond b closed (devices t.pool t.lines)) ≡ cond b (with_lines (view_of t) closed) (view_of t)
    chosen true = refl
    chosen false = refl

    by_dead : (b : Bool) → (b ≡ false → live ≡ left + 1)
        → with_lines (view_of t) (cond (not b && nat_le live 1) closed (devices t.pool t.lines)) ≡ cond b (view_of t) (release_line seeing (view_of t) n)
    by_dead true is = refl
    by_dead false is =
        ap (λ m. with_lines (view_of t) (cond (nat_le m 1) closed (devices t.pool t.lines))) (is refl)
        ∙ ap (λ b. with_lines (view_of t) (cond b closed (devices t.pool t.lines))) (last left)
        ∙ chosen (left == 0)
        ∙ ap (λ m. cond (m == 0) (with_lines (view_of t) closed) (view_of t)) (sym (live_seen t.nodes (generations (counts_of t.lines)) n t.descriptors))

-- ---- which pipes are there

removed-here : {P : Type 0} (pipes : Pipes P) (k : ℕ) → is_there (remove pipes k) k ≡ false
removed-here [] k = refl
removed-here (x ∷ pipes) zero = refl
removed-here (x ∷ pipes) (suc k) = removed-here pipes k

removed-other : {P : Type 0} (pipes : Pipes P) (j k : ℕ) → k ≢ j → is_there (remove pipes j) k ≡ is_there pipes k
removed-other pipes j k other = ap is_some (get_or-set_other pipes j k None None other)

chosen-there : {P : Type 0} (b : Bool) (pipes : Pipes P) (j k : ℕ) → is_there (cond b (remove pipes j) pipes) k ≡ (is_there pipes k && not ((j == k) && b))
chosen-there {P} b pipes j k = by_number (eqb_tells j k) b
  where
    and_true : (t : Bool) → t ≡ (t && true)
    and_true true = refl
    and_true false = refl

    and_false : (t : Bool) → false ≡ (t && false)
    and_false true = refl
    and_false false = refl

    by_number : ((j == k) ≡ true) × (j ≡ k) ⊎ ((j == k) ≡ false) × (j ≢ k) → (b : Bool)
        → is_there (cond b (remove pipes j) pipes) k ≡ (is_there pipes k && not ((j == k) && b))
    by_number (inl same) true = rw same.0 (subst (λ i. is_there (remove pipes i) k ≡ (is_there pipes k && false)) (sym same.1) (removed-here pipes k ∙ and_false (is_there pipes k)))
    by_number (inl same) false = rw same.0 (and_true (is_there pipes k))
    by_number (inr other) true = rw other.0 (removed-other pipes j k (λ is. other.1 (sym is)) ∙ and_true (is_there pipes k))
    by_number (inr other) false = rw other.0 (and_true (is_there pipes k))

pub there_after : (old new : PoolState) (before after : Pipes ChainState) (d : Shared Open) (j k : ℕ)
    → bytes_of new after ≡ (if has_no_end d j then remove (bytes_of old before) j else bytes_of old before)
    → is_there after k ≡ (is_there before k && not ((j == k) && has_no_end d k))
there_after old new before after d j k bytes =
    sym (is_there-map (holds new) after k)
    ∙ ap (λ ps. is_there ps k) bytes
    ∙ chosen-there (has_no_end d j) (bytes_of old before) j k
    ∙ ap (λ t. t && not ((j == k) && has_no_end d j)) (is_there-map (holds old) before k)
    ∙ by_number (eqb_tells j k)
  where
    by_number : ((j == k) ≡ true) × (j ≡ k) ⊎ ((j == k) ≡ false) × (j ≢ k)
        → (is_there before k && not ((j == k) && has_no_end d j)) ≡ (is_there before k && not ((j == k) && has_no_end d k))
    by_number (inl same) = ap (λ i. is_there before k && not ((j == k) && has_no_end d i)) same.1
    by_number (inr other) = rw other.0 refl

-- the table of pipes has its size
pub places_after : (old new : PoolState) (before after : Pipes ChainState) (b : Bool) (j : ℕ)
    → bytes_of new after ≡ (if b then remove (bytes_of old before) j else bytes_of old before) → length after ≡ length before
places_after old new before after b j bytes =
    sym (length-map after _) ∙ ap length bytes ∙ by_case b ∙ length-map before _
  where
    by_case : (c : Bool) → length (cond c (remove (bytes_of old before) j) (bytes_of old before)) ≡ length (bytes_of old before)
    by_case true = length-set (bytes_of old before) j None
    by_case false = refl

-- ---- how often lines were revoked

-- a close leaves it
pub generations_after : (counts : List Counts) (n opened : ℕ) → generations (use_line (closes opened) counts n) ≡ generations counts
unfolding generations
generations_after counts n opened =
    map-set (λ c. c.generation) counts n (after_use (count_at counts n) (closes opened))
    ∙ ap (set (map (λ c. c.generation) counts) n) (by_dead (nat_lt opened (count_at counts n).generation) ∙ sym (at_map counts n))
    ∙ set-get_or (map (λ c. c.generation) counts) n 0
  where
    by_dead : (b : Bool) → (cond b (count_at counts n) (record (count_at counts n) { live = (count_at counts n).live - 1 })).generation ≡ (count_at counts n).generation
    by_dead true = refl
    by_dead false = refl

    at_map : (cs : List Counts) (i : ℕ) → get_or (map (λ c. c.generation) cs) i 0 ≡ (count_at cs i).generation
    at_map [] i = refl
    at_map (c ∷ cs) zero = refl
    at_map (c ∷ cs) (suc i) = at_map cs i

-- the generation of a line, by its counts
pub generation_seen : (counts : List Counts) (n : ℕ) → generation_at (generations counts) n ≡ (count_at counts n).generation
unfolding generations
generation_seen [] n = refl
generation_seen (c ∷ cs) zero = refl
generation_seen (c ∷ cs) (suc n) = generation_seen cs n

pub generation_after : (counts : List Counts) (n opened k : ℕ) → (count_at (use_line (closes opened) counts n) k).generation ≡ (count_at counts k).generation
generation_after counts n opened k =
    sym (generation_seen (use_line (closes opened) counts n) k) ∙ ap (λ g. generation_at g k) (generations_after counts n opened) ∙ generation_seen counts k

-- ---- a descriptor is closed

-- no file goes with it
pub closes_none : (t : Tables) (slot fd : ℕ) → last_file t.descriptors slot fd ≡ None
    → view_of (record t { descriptors = drop_number t.descriptors slot fd }) ≡ change (view_of t) (on_files (close_fd slot fd))
unfolding view_of change_files
closes_none t slot fd none =
    let revokes = generations (counts_of t.lines) in
    ap (λ d. record (view_of t) { descriptors = d }) (drop_seen t.nodes revokes t.descriptors slot fd)
    ∙ ap (release seeing (record (view_of t) { descriptors = drop_number (seen_files t.nodes revokes t.descriptors) slot fd }))
    (sym (last_seen t.nodes revokes t.descriptors slot fd ∙ ap (option_map (seen_open t.nodes revokes)) none))

-- a file goes
pub closes_some : (t : Tables) (slot fd : ℕ) (f : Open) → last_file t.descriptors slot fd ≡ Some f
    → release_target seeing (view_of (record t { descriptors = drop_number t.descriptors slot fd })) (is_dead_target (generations (counts_of t.lines)) f.target)
    (seen_target t.nodes f.target)
    ≡ change (view_of t) (on_files (close_fd slot fd))
unfolding view_of change_files
closes_some t slot fd f some =
    let revokes = generations (counts_of t.lines) in
    ap (λ d. release seeing (record (view_of t) { descriptors = d }) (Some (seen_open t.nodes revokes f))) (drop_seen t.nodes revokes t.descriptors slot fd)
    ∙ ap (release seeing (record (view_of t) { descriptors = drop_number (seen_files t.nodes revokes t.descriptors) slot fd }))
    (sym (last_seen t.nodes revokes t.descriptors slot fd ∙ ap (option_map (seen_open t.nodes revokes)) some))

-- what the table of descriptors answers to the close of an open number
abbrev Closed : Type 0
Closed = Shared Open × Result (Option Open) Rule

abbrev dropped : Shared Open → ℕ → ℕ → Closed
dropped d slot fd = (drop_number d slot fd, Ok (last_file d slot fd))

close_open : (d : Shared Open) (slot fd : ℕ) → is_some (file_at d slot fd) ≡ true → close d slot fd ≡ dropped d slot fd
close_open d slot fd is = by_file (file_at d slot fd) is
  where
    refused : Closed
    refused = (d, Err BadFd)

    by_file : (o : Option Open) → is_some o ≡ true → cond (is_none o) refused (dropped d slot fd) ≡ dropped d slot fd
    by_file None never = cc
    by_file (Some f) some = refl

ok-same : (x y : Option Open) (answer : Result (Option Open) Rule) → answer ≡ Ok x → answer ≡ Ok y → x ≡ y
ok-same x y answer is same = cc

pub last_of : (d left : Shared Open) (slot fd : ℕ) (answer : Result (Option Open) Rule) (last : Option Open) → is_some (file_at d slot fd) ≡ true
    → (left, answer) ≡ close d slot fd → answer ≡ Ok last → last_file d slot fd ≡ last
last_of d left slot fd answer last is closed ok =
    ok-same (last_file d slot fd) last answer (ap (λ (p : Closed). p.1) (closed ∙ close_open d slot fd is)) ok

pub left_of : (d left : Shared Open) (slot fd : ℕ) (answer : Result (Option Open) Rule) → is_some (file_at d slot fd) ≡ true
    → (left, answer) ≡ close d slot fd → left ≡ drop_number d slot fd
left_of d left slot fd answer is closed = ap (λ (p : Closed). p.0) (closed ∙ close_open d slot fd is)
