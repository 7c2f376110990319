-- The rows of the calls on what a node is: stat(2), chmod(2), chown(2), acl_set_file(3), acl_get_file(3), mac_set_file(3),
-- mac_get_file(3).
use Rattle.std.specs.Prelude.{ℕ, ◌+◌, ◌/◌, ◌%◌, Bool, true, false, not, ◌&&◌, ◌==◌, List, [], ◌∷◌, ◌++◌, length, Option, Some, None, option_map, if◌then◌else◌}
use Rattle.std.specs.Prelude.{codes}
use Rattle.std.specs.Result.{is_err}
use Rattle.std.specs.Str.{byte}
use Rattle.std.specs.Fmt.{decimal}
use Rattle.label_core.specs.declared.element.Element.{Element}
use Rattle.label_core.specs.Subject.{may_relabel}
use Rattle.label_core.specs.Text.{element_text}
use Rattle.acl_core.specs.declared.entry.Entry.{Entry}
use Rattle.acl_core.specs.Acl.{acl_of}
use Rattle.acl_core.specs.Mode.{mode_of}
use Rattle.acl_core.specs.Text.{list_text}
use Rattle.sys_types.specs.declared.node.Kind.{Kind}
use Rattle.sys_types.specs.declared.node.Kind.TheVariants as kind
use Rattle.sys_types.specs.declared.rules.Rule.TheVariants.{LabelRead, LabelWrite, Owner, Super, NotDir, AclBad, Relabel}
use Rattle.call_words.specs.declared.attr.WhichList.{WhichList}
use Rattle.call_words.specs.declared.attr.WhichList.TheVariants.{Access, Default}
use Rattle.access_rule.specs.Access.{is_superuser}
use Rattle.tree_model.specs.Attributes.{with_bits, with_owner, with_element, with_entries}
use Rattle.tree_model.specs.Tree.{NodeRecord, is_dir_record, is_file}
use Rattle.proc_table.specs.Processes.{Process}
use Rattle.system_model.specs.Parts.{Path}
use Rattle.system_model.specs.State.{View}
use Rattle.system_model.specs.TreeEffects.{set_node}
use Rattle.system_model.specs.Effects.{Effect, on_tree}
use Rattle.system_model.specs.Rows.{Row, deny, number, text}
use Rattle.system_model.specs.Looks.{caller_of, on_node, node_at, dominates_node, node_dominates, is_not_owner}

abbrev pub kind_word : Kind → List ℕ
kind_word kind.File = codes "file"
kind_word kind.Dir = codes "dir"
kind_word (kind.Line n) = codes "line"
kind_word kind.Tty = codes "tty"

-- a mode as three octal digits
abbrev pub three_digits : ℕ → List ℕ
three_digits mode = (byte "0" + mode / 64) ∷ (byte "0" + mode / 8 % 8) ∷ (byte "0" + mode % 8) ∷ []

-- only a file has a size
abbrev pub size_of : NodeRecord → ℕ
size_of what = if is_file what.kind then length what.contents else 0

-- kind, owner, group, mode and size of a node
unfoldable pub info_text : Option NodeRecord → List ℕ
info_text None = []
info_text (Some what) =
    kind_word what.kind ++ codes ":" ++ decimal what.attrs.owner ++ codes ":" ++ decimal what.attrs.group
    ++ codes ":" ++ three_digits (mode_of what.attrs.list) ++ codes ":" ++ decimal (size_of what)

abbrev pub info_at : View → ℕ → Path → Row
info_at v slot place = record {
  checks = deny (not (dominates_node (caller_of v slot) (node_at v place))) LabelRead ∷ [];
  effects = [];
  answer = text (info_text (node_at v place));
}

abbrev pub info_row : View → ℕ → List ℕ → Row
info_row v slot path = on_node v slot path (info_at v slot)

-- the node at a place is changed
abbrev pub change_node : View → Path → (NodeRecord → NodeRecord) → List Effect
change_node v place how = on_tree (set_node place (option_map how (node_at v place))) ∷ []

abbrev pub chmod_at : View → ℕ → ℕ → Path → Row
chmod_at v slot mode place = record {
  checks = deny (not (node_dominates (caller_of v slot) (node_at v place))) LabelWrite
      ∷ deny (is_not_owner (caller_of v slot) (node_at v place)) Owner
      ∷ [];
  effects = change_node v place (with_bits mode);
  answer = number 0;
}

abbrev pub chmod_row : View → ℕ → List ℕ → ℕ → Row
chmod_row v slot path mode = on_node v slot path (chmod_at v slot mode)

-- only the superuser gives nodes away
abbrev pub chown_at : View → ℕ → ℕ → ℕ → Path → Row
chown_at v slot uid gid place = record {
  checks = deny (not (node_dominates (caller_of v slot) (node_at v place))) LabelWrite
      ∷ deny (not (is_superuser (caller_of v slot).cred)) Super
      ∷ [];
  effects = change_node v place (with_owner uid gid);
  answer = number 0;
}

abbrev pub chown_row : View → ℕ → List ℕ → ℕ → ℕ → Row
chown_row v slot path uid gid = on_node v slot path (chown_at v slot uid gid)

abbrev pub is_default : WhichList → Bool
is_default Access = false
is_default Default = true

-- only a directory has a default list
abbrev pub lacks_list : View → Path → WhichList → Bool
lacks_list v place which = is_default which && not (is_dir_record (node_at v place))

-- without entries the default list goes; all else must make a list
abbrev pub is_bad_list : WhichList → List Entry → Bool
is_bad_list which entries = not (is_default which && (length entries == 0)) && is_err (acl_of entries)

abbrev pub setacl_at : View → ℕ → WhichList → List Entry → Path → Row
setacl_at v slot which entries place = record {
  checks = deny (not (node_dominates (caller_of v slot) (node_at v place))) LabelWrite
      ∷ deny (is_not_owner (caller_of v slot) (node_at v place)) Owner
      ∷ deny (lacks_list v place which) NotDir
      ∷ deny (is_bad_list which entries) AclBad
      ∷ [];
  effects = change_node v place (with_entries which entries);
  answer = number 0;
}

abbrev pub setacl_row : View → ℕ → List ℕ → WhichList → List Entry → Row
setacl_row v slot path which entries = on_node v slot path (setacl_at v slot which entries)

-- the text of a default list; of an absent one it is empty
abbrev pub default_text : Option (List Entry) → List ℕ
default_text None = []
default_text (Some list) = list_text list

abbrev pub list_text_of : WhichList → NodeRecord → List ℕ
list_text_of Access what = list_text what.attrs.list
list_text_of Default what = default_text what.default

unfoldable pub acl_text : WhichList → Option NodeRecord → List ℕ
acl_text which None = []
acl_text which (Some what) = list_text_of which what

abbrev pub getacl_at : View → ℕ → WhichList → Path → Row
getacl_at v slot which place = record {
  checks = deny (not (dominates_node (caller_of v slot) (node_at v place))) LabelRead
      ∷ deny (lacks_list v place which) NotDir
      ∷ [];
  effects = [];
  answer = text (acl_text which (node_at v place));
}

abbrev pub getacl_row : View → ℕ → List ℕ → WhichList → Row
getacl_row v slot path which = on_node v slot path (getacl_at v slot which)

-- the caller's label does not let it give the node this element
abbrev pub may_not_relabel : Process Path → Option NodeRecord → Element → Bool
may_not_relabel who None element = false
may_not_relabel who (Some what) element = not (may_relabel who.label what.attrs.element element)

abbrev pub setlabel_at : View → ℕ → Element → Path → Row
setlabel_at v slot element place = record {
  checks = deny (is_not_owner (caller_of v slot) (node_at v place)) Owner
      ∷ deny (may_not_relabel (caller_of v slot) (node_at v place) element) Relabel
      ∷ [];
  effects = change_node v place (with_element element);
  answer = number 0;
}

abbrev pub setlabel_row : View → ℕ → List ℕ → Element → Row
setlabel_row v slot path element = on_node v slot path (setlabel_at v slot element)

unfoldable pub label_text : Option NodeRecord → List ℕ
label_text None = []
label_text (Some what) = element_text what.attrs.element

abbrev pub getlabel_at : View → ℕ → Path → Row
getlabel_at v slot place = record {
  checks = deny (not (dominates_node (caller_of v slot) (node_at v place))) LabelRead ∷ [];
  effects = [];
  answer = text (label_text (node_at v place));
}

abbrev pub getlabel_row : View → ℕ → List ℕ → Row
getlabel_row v slot path = on_node v slot path (getlabel_at v slot)
