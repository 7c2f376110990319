-- What read(2) does and answers where none of its checks holds, over the tables of a kernel.
use Rattle.std.proofs.Common.{◌≡◌, ℕ, ◌+◌, List, [], length, take, Option, Some, None, option_map, refl, sym, ap, ◌∙◌, subst}
use Rattle.std.specs.Prelude.{unwrap_or}
use Rattle.call_words.specs.declared.event.Decision.{Decision}
use Rattle.call_words.specs.declared.event.Decision.TheVariants.{Answer, Noted}
use Rattle.call_words.specs.declared.event.Reply.TheVariants.{Bytes}
use Rattle.block_pool.specs.Chain.{ChainState}
use Rattle.fd_table.specs.declared.open.Open.{Open}
use Rattle.fd_table.specs.declared.open.Target.{Target}
use Rattle.fd_table.specs.Opens.{at_offset}
use Rattle.fd_table.specs.Shared as shared
use Rattle.fd_table.specs.Shared.{Shared, change_file}
use Rattle.line_disc.specs.Device as device
use Rattle.line_disc.specs.Device.{Device}
use Rattle.line_disc.specs.Lines.{line_at, change_line}
use Rattle.pipe_core.specs.Chains.{bytes_of}
use Rattle.pipe_core.specs.Pipes.{Pipes, contents_at, take_front}
use Rattle.tree_model.specs.Contents.{bytes_at}
use Rattle.tree_model.specs.Numbers.{path_of, record_of}
use Rattle.tree_model.specs.Tree.{NodeRecord, at_path, nodes_from}
use Rattle.tty_dev.specs.Line.{LineState}
use Rattle.tty_dev.specs.Table.{devices, counts_of}
use Rattle.system_model.specs.Effects.{on_files, on_pipes, change}
use Rattle.system_model.specs.FileEffects.{set_offset}
use Rattle.system_model.specs.IoCalls.{contents_of, rest_of, read_target, read_at}
use Rattle.system_model.specs.LineEffects.{change_lines}
use Rattle.system_model.specs.Looks.{file_at}
use Rattle.system_model.specs.Parts.{node, read_end, tty}
use Rattle.system_model.specs.PipeEffects.{take_pipe, change_pipes}
use Rattle.system_model.specs.Rows.{Does}
use Rattle.system_model.specs.State.{OpenFile, View}
use Rattle.system_model.specs.Tables.{Tables, generations, seen_open, seen_pipes, seen_target, view_of}
use Rattle.system_model.proofs.FileLooks.{file_at_seen, opened_seen}
use Rattle.system_model.proofs.NodeRows.{node_at_seen}
use Rattle.system_model.proofs.SeenLines.{line_seen, line_changes}
use Rattle.system_model.proofs.Views.{seen_as}
use Rattle.io_calls.specs.Moves.{without_checks}
use Rattle.io_calls.proofs.OffsetLemmas.{offset_view}

-- the open file as calls see it
abbrev pub file-of : Tables → Open → OpenFile
file-of t f = seen_open t.nodes (generations (counts_of t.lines)) f

pub read_nothing : (t : Tables) (slot fd max : ℕ) → shared.file_at t.descriptors slot fd ≡ None
    → Does (view_of t) (view_of t) Noted (without_checks (read_at (view_of t) slot fd max (file_at (view_of t) slot fd)))
read_nothing t slot fd max none =
    subst (λ o. Does (view_of t) (view_of t) Noted (without_checks (read_at (view_of t) slot fd max o)))
    (sym (file_at_seen t slot fd ∙ ap (option_map (seen_open t.nodes (generations (counts_of t.lines)))) none))
    (record { state = refl; answer = refl })

-- what an open file of this is read
pub read_as : (t : Tables) (new : View) (d : Decision) (slot fd max : ℕ) (f : Open) (x : Target) → shared.file_at t.descriptors slot fd ≡ Some f → f.target ≡ x
    → Does (view_of t) new d (without_checks (read_target (view_of t) slot fd max (file-of t f) (seen_target t.nodes x)))
    → Does (view_of t) new d (without_checks (read_at (view_of t) slot fd max (file_at (view_of t) slot fd)))
read_as t new d slot fd max f x is of does =
    subst (λ o. Does (view_of t) new d (without_checks (read_at (view_of t) slot fd max o))) (sym (opened_seen t slot fd f is))
    (subst (λ y. Does (view_of t) new d (without_checks (read_target (view_of t) slot fd max (file-of t f) (seen_target t.nodes y)))) (sym of) does)

-- ---- a regular file

rest-by : (o : Option NodeRecord) (at max : ℕ) (given : List ℕ) → option_map (λ (r : NodeRecord). bytes_at at max r.contents) o ≡ Some given
    → bytes_at at max (contents_of o) ≡ given
rest-by None at max given is = absurd cc
rest-by (Some r) at max given is = cc

pub file_read : (t : Tables) (after : Shared Open) (slot fd max n : ℕ) (f : Open) (given : List ℕ)
    → option_map (λ (r : NodeRecord). bytes_at f.offset max r.contents) (record_of t.nodes n) ≡ Some given
    → record_of t.nodes n ≡ at_path (nodes_from t.nodes) (path_of t.nodes n)
    → after ≡ change_file (at_offset (f.offset + length given)) t.descriptors slot fd
    → Does (view_of t) (view_of (record t { descriptors = after })) (Answer (Bytes given))
    (without_checks (read_target (view_of t) slot fd max (file-of t f) (node (path_of t.nodes n))))
file_read t after slot fd max n f given is there moved =
    let rest : rest_of (view_of t) (path_of t.nodes n) f.offset max ≡ given =
    ap (λ o. bytes_at f.offset max (contents_of o)) (node_at_seen t (path_of t.nodes n) ∙ sym there) ∙ rest-by (record_of t.nodes n) f.offset max given is in
    record {
      state =
          ap (λ d. view_of (record t { descriptors = d })) moved
          ∙ offset_view t slot fd (f.offset + length given)
          ∙ ap (λ (bs : List ℕ). change (view_of t) (on_files (set_offset slot fd (f.offset + length bs)))) (sym rest);
      answer = ap (λ bs. Answer (Bytes bs)) (sym rest);
    }

-- ---- a pipe

pipes-of : (t : Tables) → (view_of t).pipes ≡ bytes_of t.pool t.pipes
unfolding view_of seen_pipes
pipes-of t = refl

pub pipes_view : (t : Tables) (after : Pipes ChainState) (k max : ℕ) → bytes_of t.pool after ≡ take_front (bytes_of t.pool t.pipes) k max
    → view_of (record t { pipes = after }) ≡ change (view_of t) (on_pipes (take_pipe k max))
unfolding view_of seen_pipes change_pipes
pipes_view t after k max is =
    seen_as (record t { pipes = after }) (change (view_of t) (on_pipes (take_pipe k max))) refl is refl refl refl refl refl refl

front-by : (o : Option (List ℕ)) (max : ℕ) (given : List ℕ) → Some given ≡ option_map (take max) o → given ≡ take max (unwrap_or o [])
front-by None max given is = absurd cc
front-by (Some bs) max given is = cc

pub pipe_read : (t : Tables) (after : Pipes ChainState) (slot fd max k : ℕ) (f : Open) (given : List ℕ)
    → Some given ≡ option_map (take max) (contents_at (bytes_of t.pool t.pipes) k) → bytes_of t.pool after ≡ take_front (bytes_of t.pool t.pipes) k max
    → Does (view_of t) (view_of (record t { pipes = after })) (Answer (Bytes given))
    (without_checks (read_target (view_of t) slot fd max (file-of t f) (read_end k)))
pipe_read t after slot fd max k f given front is = record {
  state = pipes_view t after k max is;
  answer =
      ap (λ bs. Answer (Bytes bs))
      (front-by (contents_at (bytes_of t.pool t.pipes) k) max given front ∙ ap (λ ps. take max (unwrap_or (contents_at ps k) [])) (sym (pipes-of t)));
}

-- ---- a line

pub line_read : (t : Tables) (lines : List LineState) (slot fd max n : ℕ) (f : Open) (given : List ℕ)
    → given ≡ unwrap_or (device.read (line_at (devices t.pool t.lines) n) max) []
    → devices t.pool lines ≡ change_line (λ d. device.after_read d max) (devices t.pool t.lines) n → counts_of lines ≡ counts_of t.lines
    → Does (view_of t) (view_of (record t { lines = lines })) (Answer (Bytes given))
    (without_checks (read_target (view_of t) slot fd max (file-of t f) (tty n)))
unfolding change_lines
line_read t lines slot fd max n f given is changed counts = record {
  state = line_changes t t.pool lines (λ d. device.after_read d max) n changed counts refl;
  answer = ap (λ bs. Answer (Bytes bs)) (is ∙ ap (λ (d : Device ℕ). unwrap_or (device.read d max) []) (sym (line_seen t n)));
}
