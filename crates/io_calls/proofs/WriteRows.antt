-- The checks of write(2) that concern what an open file is of, over the tables of a kernel.
use Rattle.std.proofs.Common.{◌≡◌, ℕ, ◌<◌, ◌≤◌, ◌-◌, Bool, true, false, cond, not, List, [], ◌∷◌, ◌++◌, length, Option, Some, None, option_map}
use Rattle.std.proofs.Common.{refl, sym, ap, ◌∙◌, lt-ltb, le-ltb, arith}
use Rattle.std.specs.Prelude.{◌==◌, is_some, nat_lt}
use Rattle.std.proofs.lemmas.Bool.{ne_eqb}
use Rattle.sys_types.specs.declared.limits.TheConstants.{LINES, FILE_SPACE, PIPE_BYTES}
use Rattle.sys_types.specs.declared.sig.Sig.TheVariants as sig
use Rattle.sys_types.specs.declared.rules.Rule.TheVariants.{FileSpace, NoReader, Zombie}
use Rattle.call_words.specs.declared.event.Reason.TheVariants as reason
use Rattle.call_words.specs.declared.signal.To.TheVariants.{Pid}
use Rattle.fd_table.specs.declared.open.Open.{Open}
use Rattle.fd_table.specs.declared.open.Target.TheVariants.{PipeRead}
use Rattle.fd_table.specs.Opens.{is_of}
use Rattle.fd_table.specs.Shared.{count_files}
use Rattle.line_disc.specs.Device as device
use Rattle.line_disc.specs.Device.{Device}
use Rattle.line_disc.specs.Lines.{line_at}
use Rattle.proc_table.specs.Processes.{Process}
use Rattle.termios_core.specs.declared.termios.Termios.{Termios}
use Rattle.tree_model.specs.Contents.{with_write}
use Rattle.tree_model.specs.Numbers.{path_of, record_of}
use Rattle.tree_model.specs.Tree.{NodeRecord, at_path, bytes_in, nodes_from, with_node_at}
use Rattle.tty_dev.specs.Line as line
use Rattle.tty_dev.specs.Table.{devices, counts_of, boots_of}
use Rattle.std.specs.Prelude.{slice_index_or}
use Rattle.system_model.specs.Background.{background_write}
use Rattle.system_model.specs.Effects.{on_processes}
use Rattle.system_model.specs.Fit.{FitLines}
use Rattle.system_model.specs.IoCalls.{background_put, contents_of, has_no_reader, lacks_room, pipe_bytes, write_target}
use Rattle.system_model.specs.Looks.{caller_of, line_of}
use Rattle.system_model.specs.Parts.{Path, node, write_end, tty}
use Rattle.system_model.specs.ProcessEffects.{post}
use Rattle.system_model.specs.Rows.{Check, refused, check, deny, wait_if, first}
use Rattle.system_model.specs.State.{OpenFile, View}
use Rattle.system_model.specs.Tables.{Tables, generations, seen_open, view_of}
use Rattle.system_model.proofs.RowLemmas.{first_free}
use Rattle.system_model.proofs.SeenLines.{line_seen, termios_seen}
use Rattle.io_calls.specs.Writes.{place_in}
use Rattle.io_calls.proofs.PipeMoves.{readers_of}
use Rattle.io_calls.proofs.VerdictCases.{held_first}

-- ---- regular files

pub space_checked : (t : Tables) (slot fd n place : ℕ) (f : Open) (bs written : List ℕ) (b : Bool)
    → record_of t.nodes n ≡ at_path (nodes_from t.nodes) (path_of t.nodes n) → place ≡ place_in t.nodes f n → written ≡ bs
    → b ≡ nat_lt FILE_SPACE (bytes_in (with_node_at (nodes_from t.nodes) (path_of t.nodes n) (option_map (with_write place written) (record_of t.nodes n))))
    → first (deny b FileSpace ∷ [])
    ≡ first (write_target (view_of t) slot fd bs (seen_open t.nodes (generations (counts_of t.lines)) f) (node (path_of t.nodes n))).checks
unfolding view_of
space_checked t slot fd n place f bs written b there at same is =
    let checked : ℕ → List ℕ → Option NodeRecord → Option Check =
    λ p ws o. first
    (deny (nat_lt FILE_SPACE (bytes_in (with_node_at (nodes_from t.nodes) (path_of t.nodes n) (option_map (with_write p ws) o)))) FileSpace ∷ []) in
    ap (λ c. first (deny c FileSpace ∷ [])) is
    ∙ ap (λ p. checked p written (record_of t.nodes n)) at
    ∙ ap (λ ws. checked (place_in t.nodes f n) ws (record_of t.nodes n)) same
    ∙ ap (λ o. checked (cond f.append (length (contents_of o)) f.offset) bs o) there

-- ---- pipes

abbrev pipe-checks : Bool → Bool → OpenFile → Process Path → Option Check
pipe-checks broken full f who =
    first (check broken (refused NoReader) (on_processes (post sig.PIPE (Pid who.pid)) ∷ []) ∷ wait_if full f.file who reason.Write ∷ [])

pipe-first : (t : Tables) (slot fd k : ℕ) (bs : List ℕ) (f : OpenFile) (who : Process Path) (broken full : Bool) → caller_of (view_of t) slot ≡ who
    → (count_files (is_of (PipeRead k)) t.descriptors == 0) ≡ broken → nat_lt (PIPE_BYTES - length (pipe_bytes (view_of t) k)) (length bs) ≡ full
    → first (write_target (view_of t) slot fd bs f (write_end k)).checks ≡ pipe-checks broken full f who
pipe-first t slot fd k bs f who broken full caller readers room =
    ap (λ w. pipe-checks (has_no_reader (view_of t) k) (lacks_room (view_of t) k bs) f w) caller
    ∙ ap (λ b. pipe-checks b (lacks_room (view_of t) k bs) f who) (ap (λ m. m == 0) (readers_of t k) ∙ readers)
    ∙ ap (λ b. pipe-checks broken b f who) room

none-read : (m n : ℕ) → m ≡ n → m ≡ 0 → (n == 0) ≡ true
none-read m n is none = grind (arith, is)

some-read : (m n : ℕ) → m ≡ n → (m ≡ 0 → ⊥) → (n == 0) ≡ false
some-read m n is some = ap (λ k. k == 0) (sym is) ∙ ne_eqb m 0 some

-- no open file reads it
pub pipe_broken : (t : Tables) (slot fd k m : ℕ) (bs : List ℕ) (f : OpenFile) (who : Process Path) → caller_of (view_of t) slot ≡ who
    → m ≡ count_files (is_of (PipeRead k)) t.descriptors → m ≡ 0
    → Some (refused NoReader, on_processes (post sig.PIPE (Pid who.pid)) ∷ []) ≡ first (write_target (view_of t) slot fd bs f (write_end k)).checks
pipe_broken t slot fd k m bs f who caller readers none =
    sym (pipe-first t slot fd k bs f who true _ caller (none-read m (count_files (is_of (PipeRead k)) t.descriptors) readers none) refl)

-- one does, and there is room, or not
pub pipe_goes : (t : Tables) (slot fd k m : ℕ) (bs : List ℕ) (f : OpenFile) (who : Process Path) → caller_of (view_of t) slot ≡ who
    → m ≡ count_files (is_of (PipeRead k)) t.descriptors → (m ≡ 0 → ⊥) → length bs ≤ PIPE_BYTES - length (pipe_bytes (view_of t) k)
    → None ≡ first (write_target (view_of t) slot fd bs f (write_end k)).checks
pipe_goes t slot fd k m bs f who caller readers some room =
    sym
    (pipe-first t slot fd k bs f who false false caller (some-read m (count_files (is_of (PipeRead k)) t.descriptors) readers some)
    (le-ltb (PIPE_BYTES - length (pipe_bytes (view_of t) k)) (length bs) room))

pub pipe_waits : (t : Tables) (slot fd k m : ℕ) (bs : List ℕ) (f : OpenFile) (who : Process Path) (o : Option Check) → caller_of (view_of t) slot ≡ who
    → m ≡ count_files (is_of (PipeRead k)) t.descriptors → (m ≡ 0 → ⊥) → PIPE_BYTES - length (pipe_bytes (view_of t) k) < length bs
    → o ≡ wait_if true f.file who reason.Write → o ≡ first (write_target (view_of t) slot fd bs f (write_end k)).checks
pipe_waits t slot fd k m bs f who o caller readers some full waits =
    waits
    ∙ sym
    (pipe-first t slot fd k bs f who false true caller (some-read m (count_files (is_of (PipeRead k)) t.descriptors) readers some)
    (lt-ltb (PIPE_BYTES - length (pipe_bytes (view_of t) k)) (length bs) full))

-- ---- lines

off-of : (b : Bool) → not b ≡ true → b ≡ false
off-of false is = refl
off-of true is = absurd cc

on-of : (b : Bool) → not b ≡ false → b ≡ true
on-of true is = refl
on-of false is = absurd cc

put-by : (t : Tables) (n : ℕ) (who : Process Path) (settings : Termios) → n < LINES → FitLines t.descriptors (counts_of t.lines) (boots_of t.lines)
    → settings ≡ line.termios_of (slice_index_or (boots_of t.lines) n false) (line_at (devices t.pool t.lines) n)
    → background_put (view_of t) n who ≡ cond settings.flags.tostop (background_write (view_of t) n who) []
put-by t n who settings below fit is =
    ap (λ (s : Termios). cond s.flags.tostop (background_write (view_of t) n who) []) (termios_seen t n below fit ∙ sym is)

pub put_free : (t : Tables) (n : ℕ) (who : Process Path) (settings : Termios) → n < LINES → FitLines t.descriptors (counts_of t.lines) (boots_of t.lines)
    → settings ≡ line.termios_of (slice_index_or (boots_of t.lines) n false) (line_at (devices t.pool t.lines) n) → not settings.flags.tostop ≡ true
    → None ≡ first (background_put (view_of t) n who)
put_free t n who settings below fit is off =
    sym (ap first (put-by t n who settings below fit is) ∙ ap (λ b. first (cond b (background_write (view_of t) n who) [])) (off-of settings.flags.tostop off))

pub put_looks : (t : Tables) (n : ℕ) (who : Process Path) (settings : Termios) (o : Option Check) → n < LINES
    → FitLines t.descriptors (counts_of t.lines) (boots_of t.lines)
    → settings ≡ line.termios_of (slice_index_or (boots_of t.lines) n false) (line_at (devices t.pool t.lines) n) → not settings.flags.tostop ≡ false
    → o ≡ first (background_write (view_of t) n who) → o ≡ first (background_put (view_of t) n who)
put_looks t n who settings o below fit is on check =
    check
    ∙ sym
    (ap first (put-by t n who settings below fit is)
    ∙ ap (λ b. first (cond b (background_write (view_of t) n who) [])) (on-of settings.flags.tostop on))

abbrev line-checks : View → ℕ → Bool → Bool → OpenFile → Process Path → List (Option Check)
line-checks v n zombie full f who = deny zombie Zombie ∷ background_put v n who ++ wait_if full f.file who reason.Write ∷ []

line-first : (t : Tables) (slot fd n : ℕ) (bs : List ℕ) (f : OpenFile) (who : Process Path) (zombie full : Bool) → caller_of (view_of t) slot ≡ who
    → (line_at (devices t.pool t.lines) n).zombie ≡ zombie → (device.put_count (line_at (devices t.pool t.lines) n) bs == 0) ≡ full
    → first (write_target (view_of t) slot fd bs f (tty n)).checks ≡ first (line-checks (view_of t) n zombie full f who)
line-first t slot fd n bs f who zombie full caller lost none =
    ap (λ w. first (line-checks (view_of t) n (line_of (view_of t) n).zombie (device.put_count (line_of (view_of t) n) bs == 0) f w)) caller
    ∙ ap (λ b. first (line-checks (view_of t) n b (device.put_count (line_of (view_of t) n) bs == 0) f who))
    (ap (λ (d : Device ℕ). d.zombie) (line_seen t n) ∙ lost)
    ∙ ap (λ b. first (line-checks (view_of t) n zombie b f who)) (ap (λ (d : Device ℕ). device.put_count d bs == 0) (line_seen t n) ∙ none)

pub line_lost : (t : Tables) (slot fd n : ℕ) (bs : List ℕ) (f : OpenFile) (who : Process Path) → caller_of (view_of t) slot ≡ who
    → (line_at (devices t.pool t.lines) n).zombie ≡ true → Some (refused Zombie, []) ≡ first (write_target (view_of t) slot fd bs f (tty n)).checks
line_lost t slot fd n bs f who caller lost = sym (line-first t slot fd n bs f who true _ caller lost refl)

pub line_held : (t : Tables) (slot fd n : ℕ) (bs : List ℕ) (f : OpenFile) (who : Process Path) (o : Option Check) → caller_of (view_of t) slot ≡ who
    → (line_at (devices t.pool t.lines) n).zombie ≡ false → o ≡ first (background_put (view_of t) n who) → is_some o ≡ true
    → o ≡ first (write_target (view_of t) slot fd bs f (tty n)).checks
line_held t slot fd n bs f who o caller lost is held =
    held_first (background_put (view_of t) n who) (wait_if (device.put_count (line_at (devices t.pool t.lines) n) bs == 0) f.file who reason.Write ∷ []) o is
    held
    ∙ sym (line-first t slot fd n bs f who false (device.put_count (line_at (devices t.pool t.lines) n) bs == 0) caller lost refl)

pub line_goes : (t : Tables) (slot fd n : ℕ) (bs : List ℕ) (f : OpenFile) (who : Process Path) → caller_of (view_of t) slot ≡ who
    → (line_at (devices t.pool t.lines) n).zombie ≡ false → first (background_put (view_of t) n who) ≡ None
    → (device.put_count (line_at (devices t.pool t.lines) n) bs == 0) ≡ false → None ≡ first (write_target (view_of t) slot fd bs f (tty n)).checks
line_goes t slot fd n bs f who caller lost free fits =
    sym
    (line-first t slot fd n bs f who false false caller lost fits
    ∙ first_free (background_put (view_of t) n who) (wait_if false f.file who reason.Write ∷ []) free)

pub line_waits : (t : Tables) (slot fd n : ℕ) (bs : List ℕ) (f : OpenFile) (who : Process Path) (o : Option Check) → caller_of (view_of t) slot ≡ who
    → (line_at (devices t.pool t.lines) n).zombie ≡ false → first (background_put (view_of t) n who) ≡ None
    → (device.put_count (line_at (devices t.pool t.lines) n) bs == 0) ≡ true → o ≡ wait_if true f.file who reason.Write
    → o ≡ first (write_target (view_of t) slot fd bs f (tty n)).checks
line_waits t slot fd n bs f who o caller lost free none waits =
    waits
    ∙ sym
    (line-first t slot fd n bs f who false true caller lost none
    ∙ first_free (background_put (view_of t) n who) (wait_if true f.file who reason.Write ∷ []) free)
