-- What write(2) does and answers where none of its checks holds, over the tables of a kernel.
use Rattle.std.proofs.Common.{◌≡◌, ℕ, ◌+◌, cond, List, length, map, Option, Some, None, option_map, refl, sym, ap, ◌∙◌, subst}
use Rattle.std.proofs.lemmas.List.{map-id}
use Rattle.call_words.specs.declared.event.Decision.{Decision}
use Rattle.call_words.specs.declared.event.Decision.TheVariants.{Answer, Noted}
use Rattle.call_words.specs.declared.event.Reply.TheVariants.{Num}
use Rattle.block_pool.specs.Chain.{ChainState}
use Rattle.block_pool.specs.Pool.{PoolState}
use Rattle.fd_table.specs.declared.open.Open.{Open}
use Rattle.fd_table.specs.declared.open.Target.{Target}
use Rattle.fd_table.specs.Opens.{at_offset}
use Rattle.fd_table.specs.Shared as shared
use Rattle.fd_table.specs.Shared.{Shared, change_file}
use Rattle.line_disc.specs.Device as device
use Rattle.line_disc.specs.Device.{Device}
use Rattle.line_disc.specs.Discipline.{bytes}
use Rattle.line_disc.specs.Lines.{line_at, change_line}
use Rattle.pipe_core.specs.Chains.{bytes_of}
use Rattle.pipe_core.specs.Pipes.{Pipes, put}
use Rattle.tree_model.specs.Contents.{with_write}
use Rattle.tree_model.specs.Numbers.{path_of, record_of}
use Rattle.tree_model.specs.Tree.{NodeAt, NodeRecord, at_path, nodes_from, with_node_at}
use Rattle.tty_dev.specs.Line.{LineState}
use Rattle.tty_dev.specs.Table.{devices, counts_of}
use Rattle.vnode_tree.specs.Nodes.{with_record}
use Rattle.system_model.specs.Effects.{on_files, on_pipes, on_tree, change}
use Rattle.system_model.specs.FileEffects.{set_offset}
use Rattle.system_model.specs.IoCalls.{contents_of, write_place, write_target, write_at}
use Rattle.system_model.specs.LineEffects.{change_lines}
use Rattle.system_model.specs.Looks.{file_at}
use Rattle.system_model.specs.Parts.{node, write_end, tty}
use Rattle.system_model.specs.PipeEffects.{put_pipe, change_pipes}
use Rattle.system_model.specs.Rows.{Does}
use Rattle.system_model.specs.State.{View}
use Rattle.system_model.specs.Tables.{Tables, generations, seen_open, seen_pipes, seen_target, view_of}
use Rattle.system_model.specs.TreeEffects.{set_node}
use Rattle.system_model.proofs.FileLooks.{file_at_seen, opened_seen}
use Rattle.system_model.proofs.NodeFits.{kept_seen}
use Rattle.system_model.proofs.NodeRows.{node_at_seen}
use Rattle.system_model.proofs.SeenLines.{line_seen, line_changes}
use Rattle.system_model.proofs.Views.{seen_as}
use Rattle.io_calls.specs.Moves.{without_checks}
use Rattle.io_calls.specs.Writes.{place_in}
use Rattle.io_calls.proofs.KeptNodes.{written_kept}
use Rattle.io_calls.proofs.OffsetLemmas.{offset_view}
use Rattle.io_calls.proofs.ReadMoves.{file-of}

pub write_nothing : (t : Tables) (slot fd : ℕ) (bs : List ℕ) → shared.file_at t.descriptors slot fd ≡ None
    → Does (view_of t) (view_of t) Noted (without_checks (write_at (view_of t) slot fd bs (file_at (view_of t) slot fd)))
write_nothing t slot fd bs none =
    subst (λ o. Does (view_of t) (view_of t) Noted (without_checks (write_at (view_of t) slot fd bs o)))
    (sym (file_at_seen t slot fd ∙ ap (option_map (seen_open t.nodes (generations (counts_of t.lines)))) none))
    (record { state = refl; answer = refl })

-- what is written to an open file of this
pub write_as : (t : Tables) (new : View) (d : Decision) (slot fd : ℕ) (bs : List ℕ) (f : Open) (x : Target) → shared.file_at t.descriptors slot fd ≡ Some f
    → f.target ≡ x → Does (view_of t) new d (without_checks (write_target (view_of t) slot fd bs (file-of t f) (seen_target t.nodes x)))
    → Does (view_of t) new d (without_checks (write_at (view_of t) slot fd bs (file_at (view_of t) slot fd)))
write_as t new d slot fd bs f x is of does =
    subst (λ o. Does (view_of t) new d (without_checks (write_at (view_of t) slot fd bs o))) (sym (opened_seen t slot fd f is))
    (subst (λ y. Does (view_of t) new d (without_checks (write_target (view_of t) slot fd bs (file-of t f) (seen_target t.nodes y)))) (sym of) does)

-- ---- a regular file

place-seen : (t : Tables) (n : ℕ) (f : Open) → record_of t.nodes n ≡ at_path (nodes_from t.nodes) (path_of t.nodes n)
    → write_place (view_of t) (path_of t.nodes n) (file-of t f) ≡ place_in t.nodes f n
place-seen t n f there =
    ap (λ o. cond f.append (length (contents_of o)) f.offset) (node_at_seen t (path_of t.nodes n) ∙ sym there)

-- the file and its offset
written-view : (t : Tables) (new : List (Option NodeAt)) (after : Shared Open) (slot fd n place end : ℕ) (bs : List ℕ)
    → new ≡ with_record (with_write place bs) t.nodes n
    → nodes_from new ≡ with_node_at (nodes_from t.nodes) (path_of t.nodes n) (option_map (with_write place bs) (record_of t.nodes n))
    → after ≡ change_file (at_offset end) t.descriptors slot fd
    → view_of (record t { nodes = new; descriptors = after })
    ≡ change (change (view_of t) (on_tree (set_node (path_of t.nodes n) (option_map (with_write place bs) (record_of t.nodes n)))))
    (on_files (set_offset slot fd end))
written-view t new after slot fd n place end bs set map moved =
    ap (λ d. view_of (record t { nodes = new; descriptors = d })) moved
    ∙ offset_view (record t { nodes = new }) slot fd end
    ∙ ap (λ v. change v (on_files (set_offset slot fd end)))
    (kept_seen t new (path_of t.nodes n) (option_map (with_write place bs) (record_of t.nodes n)) map
    (λ entry number f at target. rw set (written_kept t.nodes n place bs number)) (λ s p at. rw set (written_kept t.nodes n place bs p.directory)))

pub file_written : (t : Tables) (new : List (Option NodeAt)) (after : Shared Open) (slot fd n place : ℕ) (bs : List ℕ) (f : Open)
    → record_of t.nodes n ≡ at_path (nodes_from t.nodes) (path_of t.nodes n) → place ≡ place_in t.nodes f n
    → new ≡ with_record (with_write place bs) t.nodes n
    → nodes_from new ≡ with_node_at (nodes_from t.nodes) (path_of t.nodes n) (option_map (with_write place bs) (record_of t.nodes n))
    → after ≡ change_file (at_offset (place + length bs)) t.descriptors slot fd
    → Does (view_of t) (view_of (record t { nodes = new; descriptors = after })) (Answer (Num (length bs)))
    (without_checks (write_target (view_of t) slot fd bs (file-of t f) (node (path_of t.nodes n))))
file_written t new after slot fd n place bs f there at set map moved =
    let both : ℕ → Option NodeRecord → View =
    λ p o. change (change (view_of t) (on_tree (set_node (path_of t.nodes n) (option_map (with_write p bs) o))))
    (on_files (set_offset slot fd (p + length bs))) in
    record {
      state =
          written-view t new after slot fd n place (place + length bs) bs set map moved
          ∙ ap (λ p. both p (record_of t.nodes n)) (at ∙ sym (place-seen t n f there))
          ∙ ap (both (write_place (view_of t) (path_of t.nodes n) (file-of t f))) (there ∙ sym (node_at_seen t (path_of t.nodes n)));
      answer = refl;
    }

-- ---- a pipe

pipes-put : (t : Tables) (pool : PoolState) (after : Pipes ChainState) (k : ℕ) (bs : List ℕ) → bytes_of pool after ≡ put (bytes_of t.pool t.pipes) k bs
    → devices pool t.lines ≡ devices t.pool t.lines → view_of (record t { pipes = after; pool = pool }) ≡ change (view_of t) (on_pipes (put_pipe k bs))
unfolding view_of seen_pipes change_pipes
pipes-put t pool after k bs is lines =
    seen_as (record t { pipes = after; pool = pool }) (change (view_of t) (on_pipes (put_pipe k bs))) refl
    (is ∙ ap (put (bytes_of t.pool t.pipes) k) (sym (map-id bs))) lines refl refl refl refl refl

pub pipe_written : (t : Tables) (pool : PoolState) (after : Pipes ChainState) (slot fd k count : ℕ) (bs : List ℕ) (f : Open) → count ≡ length bs
    → bytes_of pool after ≡ put (bytes_of t.pool t.pipes) k bs → devices pool t.lines ≡ devices t.pool t.lines
    → Does (view_of t) (view_of (record t { pipes = after; pool = pool })) (Answer (Num count))
    (without_checks (write_target (view_of t) slot fd bs (file-of t f) (write_end k)))
pipe_written t pool after slot fd k count bs f counted is lines = record {
  state = pipes-put t pool after k bs is lines;
  answer = ap (λ n. Answer (Num n)) counted;
}

-- ---- a line

pub line_written : (t : Tables) (pool : PoolState) (lines : List LineState) (slot fd n count : ℕ) (bs : List ℕ) (f : Open)
    → count ≡ device.put_count (line_at (devices t.pool t.lines) n) bs
    → devices pool lines ≡ change_line (λ d. device.put bytes d bs) (devices t.pool t.lines) n → counts_of lines ≡ counts_of t.lines
    → seen_pipes pool t.pipes ≡ seen_pipes t.pool t.pipes
    → Does (view_of t) (view_of (record t { pool = pool; lines = lines })) (Answer (Num count))
    (without_checks (write_target (view_of t) slot fd bs (file-of t f) (tty n)))
unfolding change_lines
line_written t pool lines slot fd n count bs f is changed counts pipes = record {
  state = line_changes t pool lines (λ d. device.put bytes d bs) n changed counts pipes;
  answer = ap (λ k. Answer (Num k)) (is ∙ ap (λ (d : Device ℕ). device.put_count d bs) (sym (line_seen t n)));
}
