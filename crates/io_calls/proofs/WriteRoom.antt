-- Where no check of a write holds there are bytes, and there is room for them.
use Rattle.std.proofs.Common.{◌≡◌, ℕ, ◌<◌, ◌≤◌, ◌+◌, ◌-◌, Bool, true, false, List, [], ◌∷◌, ◌++◌, length, Option, Some, None, refl, sym, ap, ◌∙◌, arith}
use Rattle.std.specs.Prelude.{◌==◌, not, nat_lt}
use Rattle.std.proofs.lemmas.Bool.{ltb-false}
use Rattle.sys_types.specs.declared.limits.TheConstants.{FILE_SPACE, PIPE_BYTES}
use Rattle.sys_types.specs.declared.rules.Rule.TheVariants.{BadFd, FdMode, Dead, LabelWrite, NoReader}
use Rattle.block_pool.specs.Chain.{holds}
use Rattle.call_words.specs.declared.event.Reason.TheVariants as reason
use Rattle.fd_table.specs.declared.open.Open.{Open}
use Rattle.fd_table.specs.declared.open.Target.{Target}
use Rattle.fd_table.specs.declared.open.Target.TheVariants as target
use Rattle.fd_table.specs.Shared as shared
use Rattle.proc_table.specs.Processes.{Process}
use Rattle.tree_model.specs.Numbers.{path_of}
use Rattle.tree_model.specs.Tree.{at_path, nodes_from}
use Rattle.system_model.specs.IoCalls.{has_no_reader, may_not_write, pipe_bytes, write_row, write_target}
use Rattle.system_model.specs.Looks.{caller_of}
use Rattle.system_model.specs.Parts.{Path, File}
use Rattle.system_model.specs.Rows.{Outcome, Check, refused, check, deny, wait_if, first}
use Rattle.sys_types.specs.declared.sig.Sig.TheVariants as sig
use Rattle.call_words.specs.declared.signal.To.TheVariants.{Pid}
use Rattle.system_model.specs.Effects.{Effect, on_processes}
use Rattle.system_model.specs.ProcessEffects.{post}
use Rattle.system_model.specs.Tables.{Tables, seen_target, view_of}
use Rattle.io_calls.specs.Moves.{write_checks}
use Rattle.io_calls.specs.Writes.{HasRoom, bytes_then}
use Rattle.io_calls.proofs.PipeMoves.{pipe_held}
use Rattle.io_calls.proofs.ReadMoves.{file-of}
use Rattle.io_calls.proofs.WriteChecks.{write_first, write_shut}

-- of two lists of checks neither has one that holds
front-free : (checks more : List (Option Check)) → first (checks ++ more) ≡ None → first checks ≡ None
front-free [] more none = refl
front-free (None ∷ checks) more none = front-free checks more none
front-free (Some c ∷ checks) more none = absurd cc

rest-free : (checks more : List (Option Check)) → first (checks ++ more) ≡ None → first more ≡ None
rest-free [] more none = none
rest-free (None ∷ checks) more none = rest-free checks more none
rest-free (Some c ∷ checks) more none = absurd cc

last-free : (o : Option Check) (more : List (Option Check)) → first (o ∷ more) ≡ None → first more ≡ None
last-free None more none = none
last-free (Some c) more none = absurd cc

-- a check that does not hold
check-free : (b : Bool) (outcome : Outcome) (effects : List Effect) → first (check b outcome effects ∷ []) ≡ None → b ≡ false
check-free false outcome effects none = refl
check-free true outcome effects none = absurd cc

-- behind another one the write does not wait
wait-free : (o : Option Check) (b : Bool) (f : File) (who : Process Path) → first (o ∷ wait_if b f who reason.Write ∷ []) ≡ None → b ≡ false
wait-free None false f who none = refl
wait-free None true f who none = absurd cc
wait-free (Some c) b f who none = absurd cc

-- both parts of the checks of an open file
both-free : (t : Tables) (slot fd : ℕ) (bs : List ℕ) (f : Open) → shared.file_at t.descriptors slot fd ≡ Some f
    → first (write_row (view_of t) slot fd bs).checks ≡ None
    → first
    (write_checks (view_of t) (caller_of (view_of t) slot) bs (file-of t f)
    ++ (write_target (view_of t) slot fd bs (file-of t f) (seen_target t.nodes f.target)).checks)
    ≡ None
both-free t slot fd bs f is none = sym (write_first t slot fd bs f (caller_of (view_of t) slot) is refl) ∙ none

some-by : (n : ℕ) → (n == 0) ≡ false → 0 < n
some-by n is = grind (arith, is)

-- there are bytes
pub write_some : (t : Tables) (slot fd : ℕ) (bs : List ℕ) (f : Open) → shared.file_at t.descriptors slot fd ≡ Some f
    → first (write_row (view_of t) slot fd bs).checks ≡ None → 0 < length bs
write_some t slot fd bs f is none =
    let v = view_of t in
    let who = caller_of (view_of t) slot in
    let F = file-of t f in
    let front = front-free (write_checks v who bs F) (write_target v slot fd bs F (seen_target t.nodes f.target)).checks (both-free t slot fd bs f is none) in
    some-by (length bs)
    (check-free (length bs == 0) _ []
    (last-free (deny (may_not_write v who F.file.target) LabelWrite) _
    (last-free (deny F.dead Dead) _ (last-free (deny (not F.file.writable) FdMode) _ front))))

fits-by : (held written most n : ℕ) → n ≡ held → written ≤ most - n → 0 < written → held + written ≤ most
fits-by held written most n is room some = omega (arith, is, room, some)

-- and there is room for them
room-by : (t : Tables) (slot fd : ℕ) (bs : List ℕ) (f : Open) (x : Target) → 0 < length bs
    → first (write_target (view_of t) slot fd bs (file-of t f) (seen_target t.nodes x)).checks ≡ None → HasRoom t.nodes t.pool t.pipes bs f x
unfolding view_of
room-by t slot fd bs f (target.File n) some none =
    ltb-false FILE_SPACE (bytes_then t.nodes f n bs (at_path (nodes_from t.nodes) (path_of t.nodes n))) (check-free _ _ [] none)
room-by t slot fd bs f (target.PipeRead k) some none = tt
room-by t slot fd bs f (target.PipeWrite k) some none = λ c is.
    (let room = ltb-false (PIPE_BYTES - length (pipe_bytes (view_of t) k)) (length bs)
    (wait-free (check (has_no_reader (view_of t) k) (refused NoReader) (on_processes (post sig.PIPE (Pid (caller_of (view_of t) slot).pid)) ∷ []))
    (nat_lt (PIPE_BYTES - length (pipe_bytes (view_of t) k)) (length bs)) (file-of t f).file (caller_of (view_of t) slot) none) in
    fits-by (length (holds t.pool c)) (length bs) PIPE_BYTES (length (pipe_bytes (view_of t) k)) (ap length (pipe_held t k c is)) room some)
room-by t slot fd bs f (target.Line n opened) some none = tt

pub write_room : (t : Tables) (slot fd : ℕ) (bs : List ℕ) (f : Open) → shared.file_at t.descriptors slot fd ≡ Some f
    → first (write_row (view_of t) slot fd bs).checks ≡ None → HasRoom t.nodes t.pool t.pipes bs f f.target
write_room t slot fd bs f is none =
    room-by t slot fd bs f f.target (write_some t slot fd bs f is none)
    (rest-free (write_checks (view_of t) (caller_of (view_of t) slot) bs (file-of t f))
    (write_target (view_of t) slot fd bs (file-of t f) (seen_target t.nodes f.target)).checks (both-free t slot fd bs f is none))

pub write_any : (t : Tables) (slot fd : ℕ) (bs : List ℕ) → first (write_row (view_of t) slot fd bs).checks ≡ None → 0 < length bs
write_any t slot fd bs none = by_file (shared.file_at t.descriptors slot fd) refl
  where
    by_file : (o : Option Open) → shared.file_at t.descriptors slot fd ≡ o → 0 < length bs
    by_file None is = absurd (let both : Some (refused BadFd, []) ≡ None = write_shut t slot fd bs is ∙ none in cc)
    by_file (Some f) is = write_some t slot fd bs f is none
