use Rattle.std.proofs.Common.{◌≡◌, [], ◌∷◌, ◌++◌, Some, None, refl, sym, ap, ◌∙◌, subst}
use Rattle.sys_types.specs.declared.node.Kind.TheVariants.{Dir}
use Rattle.sys_types.specs.declared.rules.Rule.TheVariants.{Exists}
use Rattle.proc_table.specs.Procs.{process_of}
use Rattle.proc_table.specs.Processes.{running_at}
use Rattle.tree_model.specs.NewNodes.{new_in_dir}
use Rattle.call_words.specs.declared.event.Decision.TheVariants.{Answer}
use Rattle.call_words.specs.declared.event.Reply.TheVariants.{Denied}
use Rattle.tree_model.specs.Tree.{absent, found, with_node_at, nodes_from}
use Rattle.vnode_tree.specs.declared.resolve.Place.{Place}
use Rattle.vnode_tree.specs.declared.resolve.Place.TheVariants.{Found, Absent}
use Rattle.vnode_tree.specs.Nodes.{path_of, record_of}
use Rattle.vnode_tree.specs.Resolve.{IsLivePlace, LeadsTo}
use Rattle.system_model.specs.DirCalls.{mkdir_at, mkdir_row}
use Rattle.system_model.specs.Rows.{Does}
use Rattle.system_model.specs.Tables.{Tables, view_of}
use Rattle.system_model.proofs.FitLemmas.{directory_live}
use Rattle.system_model.proofs.NodeFits.{kept_seen}
use Rattle.system_model.proofs.NodeRows.{path_denies}
use Rattle.system_model.proofs.RowLemmas.{refuses, goes_on, stops, passes}
use Rattle.node_calls.proofs.Making.{place_leads, make_seen, made_seen, files_kept, directories_kept, made_files, made_directories, made_tree}
use Rattle.node_calls.proofs.directories.do_mkdir.Goals as goal

pub find-requires : goal.find-requires
find-requires c = directory_live c.args.tree.now c.args.procs.now c.args.slot (process_of c.caller-who.result.now) c.requires.directories c.caller-who.ensures

pub returns-in-Err-clause-does : goal.returns-in-Err-clause-does
returns-in-Err-clause-does c = λ t nodes processes fit.
    rw (c.denied.ensures, ← nodes)
    (path_denies t c.args.slot (process_of c.caller-who.result.now) c.args.path.now (mkdir_at (view_of t) c.args.slot c.args.mode) c.in-Err.rule
    (ap (λ ps. running_at ps c.args.slot) processes ∙ c.caller-who.ensures)
    (rw nodes c.in-Err.ensures))

pub returns-in_default-clause-does : goal.returns-in_default-clause-does
returns-in_default-clause-does c = λ t nodes processes fit.
    rw (c.denied-in_default.ensures, ← nodes)
    (by_place t nodes (ap (λ ps. running_at ps c.args.slot) processes ∙ c.caller-who.ensures) c.in-Ok.place refl)
  where
    by_place : (t : Tables) → t.nodes ≡ c.args.tree.now → running_at t.processes c.args.slot ≡ Some (process_of c.caller-who.result.now)
        → (place : Place) → c.in-Ok.place ≡ place
        → Does (view_of t) (view_of t) (Answer (Denied Exists)) (mkdir_row (view_of t) c.args.slot c.args.path.now c.args.mode)
    by_place t nodes runs (Found node) is =
        place_leads t c.args.tree.now (view_of t) (Answer (Denied Exists)) c.args.slot (process_of c.caller-who.result.now) c.args.path.now
        (mkdir_at (view_of t) c.args.slot c.args.mode) (Found node) nodes runs
        (subst (LeadsTo c.args.tree.now c.caller-who.result.now.cred c.caller-who.result.now.label c.caller-who.result.now.cwd c.args.path.now) is
        c.in-Ok.ensures)
        (refuses (view_of t) (mkdir_at (view_of t) c.args.slot c.args.mode (found (path_of c.args.tree.now node))) Exists refl)
    by_place t nodes runs (Absent dir name) is = absurd (c.in_default.not-Absent dir name is)

pub returns-in-Ok-make_node-clause-files : goal.returns-in-Ok-make_node-clause-files
returns-in-Ok-make_node-clause-files c = made_files c.args.tree.now c.make_node.new.self c.in-Ok-make_node.ensures.keeps

pub returns-in-Ok-make_node-clause-directories : goal.returns-in-Ok-make_node-clause-directories
returns-in-Ok-make_node-clause-directories c =
    made_directories c.args.tree.now c.make_node.new.self c.args.procs.now c.in-Ok-make_node.ensures.keeps c.requires.directories

pub returns-in-Ok-make_node-clause-tree : goal.returns-in-Ok-make_node-clause-tree
returns-in-Ok-make_node-clause-tree c =
    let live : IsLivePlace c.args.tree.now (Absent c.in-Absent.dir c.in-Absent.name) = subst
    (IsLivePlace c.args.tree.now) c.in-Absent.is c.in-Ok.ensures.live in
    made_tree c.args.tree.now c.make_node.new.self c.in-Ok-make_node.field-0 c.in-Absent.dir c.in-Absent.name c.caller-who.result.now.cred
    c.caller-who.result.now.label c.caller-who.result.now.umask c.args.mode live c.in-Ok-make_node.ensures.new_node c.in-Ok-make_node.ensures.map

pub returns-in-Ok-make_node-clause-does : goal.returns-in-Ok-make_node-clause-does
returns-in-Ok-make_node-clause-does c = λ t nodes processes fit.
    let old = c.args.tree.now in
    let new = c.make_node.new.self in
    let who = process_of c.caller-who.result.now in
    let dir = c.in-Absent.dir in
    let runs = ap (λ ps. running_at ps c.args.slot) processes ∙ c.caller-who.ensures in
    let leads : LeadsTo old who.cred who.label who.directory c.args.path.now (Absent dir c.in-Absent.name) =
    subst (LeadsTo old who.cred who.label who.directory c.args.path.now) c.in-Absent.is c.in-Ok.ensures in
    let path = path_of old dir ++ c.in-Absent.name ∷ [] in
    let free = make_seen t old c.args.slot who dir None nodes runs c.in-Ok-make_node.ensures.dir c.in-Ok-make_node.ensures.denied in
    let made = made_seen t old c.args.slot who dir Dir c.args.mode nodes runs c.in-Ok-make_node.ensures.dir in
    let map = c.in-Ok-make_node.ensures.map ∙ ap (λ ns. with_node_at (nodes_from ns) path (new_in_dir who.cred who.label who.umask
    (record_of old dir) Dir c.args.mode)) (sym nodes)
    ∙ ap (λ what. with_node_at (nodes_from t.nodes) path what) (sym made) in
    rw c.nothing.ensures
    (place_leads t old _ _ c.args.slot who c.args.path.now (mkdir_at (view_of t) c.args.slot c.args.mode) (Absent dir c.in-Absent.name) nodes runs leads
    (goes_on (view_of t) _ (mkdir_at (view_of t) c.args.slot c.args.mode (absent (path_of old dir) c.in-Absent.name)) (passes _ [] free)
    (kept_seen t new path _ map
    (rw nodes (files_kept old new t.descriptors c.in-Ok-make_node.ensures.keeps fit))
    (rw (nodes, processes) (directories_kept old new c.args.procs.now c.in-Ok-make_node.ensures.keeps c.requires.directories)))))

pub returns-in-Err-make_node-clause-does : goal.returns-in-Err-make_node-clause-does
returns-in-Err-make_node-clause-does c = λ t nodes processes fit.
    let old = c.args.tree.now in
    let who = process_of c.caller-who.result.now in
    let dir = c.in-Absent.dir in
    let runs = ap (λ ps. running_at ps c.args.slot) processes ∙ c.caller-who.ensures in
    let leads : LeadsTo old who.cred who.label who.directory c.args.path.now (Absent dir c.in-Absent.name) =
    subst (LeadsTo old who.cred who.label who.directory c.args.path.now) c.in-Absent.is c.in-Ok.ensures in
    let denied = make_seen t old c.args.slot who dir (Some c.in-Err-make_node.rule) nodes runs c.in-Err-make_node.ensures.dir
    c.in-Err-make_node.ensures.denied in
    rw (c.denied-in-Err-make_node.ensures, c.in-Err-make_node.ensures.nothing, ← nodes)
    (place_leads t old (view_of t) _ c.args.slot who c.args.path.now (mkdir_at (view_of t) c.args.slot c.args.mode)
    (Absent dir c.in-Absent.name) nodes runs leads
    (refuses (view_of t) (mkdir_at (view_of t) c.args.slot c.args.mode (absent (path_of old dir) c.in-Absent.name)) c.in-Err-make_node.rule
    (stops _ [] _ denied)))
