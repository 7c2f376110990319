-- What a scene unfolds to be computed, from the bytes of its lines to those of its answers.
use Rattle.std.specs.Prelude.{⊤}
use Rattle.std.specs.Fmt.{digits}
use Rattle.hex.proofs.OnLiterals.{hex_on_literals}
use Rattle.script_text.specs.Answers.{wake_text, answer_line}
use Rattle.script_text.specs.Attr.{attr_call_of}
use Rattle.script_text.specs.Cred.{cred_call_of}
use Rattle.script_text.specs.Dir.{dir_call_of}
use Rattle.script_text.specs.Io.{io_call_of}
use Rattle.script_text.specs.Open.{open_call_of}
use Rattle.script_text.specs.Paths.{path_bytes_of, path_of, path_word, text_word}
use Rattle.script_text.specs.Pipe.{pipe_call_of}
use Rattle.script_text.specs.Proc.{proc_call_of}
use Rattle.script_text.specs.Reading.{events_of_line}
use Rattle.script_text.specs.Rights.{groups_of}
use Rattle.script_text.specs.Signal.{signal_of, signal_call_of}
use Rattle.script_text.specs.Tty.{tty_call_of}
use Rattle.script_text.specs.Values.{flags_of, flags_word}
use Rattle.script_text.specs.Words.{parts_of, number_below, bytes_of_word, hex_word}
use Rattle.proc_table.specs.Endings.{end_at, groups_orphaned_by}
use Rattle.proc_table.specs.Posts.{disposition_of, post_child}
use Rattle.line_disc.specs.Cook.{interrupt, erase, drop_line, end_file, end_line, add_byte, cook}
use Rattle.line_disc.specs.Transfers.{put, retune}
use Rattle.termios_core.specs.Flags.{on_flags}
use Rattle.termios_core.specs.Reading.{termios_of}
use Rattle.termios_core.specs.Text.{termios_text}
use Rattle.system_model.specs.AttrCalls.{info_text, acl_text, label_text}
use Rattle.system_model.specs.CredCalls.{ident_text}
use Rattle.system_model.specs.Endings.{endings}
use Rattle.system_model.specs.FileEffects.{change_files}
use Rattle.system_model.specs.LineEffects.{change_lines, revokes_after}
use Rattle.system_model.specs.PipeEffects.{change_pipes}
use Rattle.system_model.specs.ProcCalls.{ps_text}
use Rattle.system_model.specs.ProcessEffects.{change_processes}
use Rattle.system_model.specs.Rows.{ended_by}
use Rattle.system_model.specs.State.{view, boot}
use Rattle.system_model.specs.Step.{answer_to, view_after, waits, wakes}
use Rattle.system_model.specs.TreeEffects.{change_tree}
use Rattle.user_db.specs.Boot.{boot_of}
use Rattle.user_db.specs.Grammar.{boot_line_of}
use Rattle.user_db.specs.Lines.{lines}
use Rattle.acl_core.specs.Acl.{acl_of}
use Rattle.acl_core.specs.Deciding.{grants, has_exec}
use Rattle.acl_core.specs.Mode.{minimal_list, mode_of, with_mode, inherited_list}
use Rattle.acl_core.specs.Reading.{digits_at, number_at, numbered_at, qualifier_at, tag_at, perm_at, entry_at, more_at, entries_at, list_at, read_of}
use Rattle.acl_core.specs.Text.{list_text}
use Rattle.label_core.specs.CompSet.{numbers_in}
use Rattle.label_core.specs.Element.{dom}
use Rattle.label_core.specs.Reading.{after_word, number_at as label_number_at, compartments_within, compartments_at, grade_at, body_at, element_at, range_at}
use Rattle.label_core.specs.Reading.{whole_element, whole_parts, whole_subject, element_of, subject_of}
use Rattle.label_core.specs.Text.{element_text, subject_text}
use Rattle.tree_model.specs.Contents.{after_write}
use Rattle.tree_model.specs.Listing.{names_under, most_that_fit, names_text}
use Rattle.tree_model.specs.Paths.{part_lines}
use Rattle.tree_model.specs.Standard.{standard, standard_tree}
use Rattle.tree_model.specs.Tree.{at_path, with_node_at, nodes_from, bytes_in, steps, walk_from, walk}
use Rattle.call_words.specs.Groups.{groups_word}
use Rattle.system_rows.specs.Scenes.{wrong_from}

unfoldable pub scenes_compute : ⊤
unfolding digits hex_on_literals wake_text answer_line attr_call_of cred_call_of dir_call_of io_call_of open_call_of path_bytes_of path_of path_word
    text_word pipe_call_of proc_call_of events_of_line groups_of signal_of signal_call_of tty_call_of flags_of flags_word parts_of number_below
    bytes_of_word hex_word end_at groups_orphaned_by disposition_of post_child interrupt erase drop_line end_file end_line add_byte cook put retune on_flags
    termios_of termios_text info_text acl_text label_text ident_text endings change_files change_lines revokes_after change_pipes ps_text change_processes
    ended_by view boot answer_to view_after waits wakes change_tree boot_of boot_line_of lines acl_of grants has_exec minimal_list mode_of with_mode
    inherited_list digits_at number_at numbered_at qualifier_at tag_at perm_at entry_at more_at entries_at list_at read_of list_text numbers_in dom
    after_word label_number_at compartments_within compartments_at grade_at body_at element_at range_at whole_element whole_parts whole_subject element_of
    subject_of element_text subject_text after_write names_under most_that_fit names_text part_lines standard standard_tree at_path with_node_at nodes_from
    bytes_in steps walk_from walk groups_word wrong_from
scenes_compute = tt
