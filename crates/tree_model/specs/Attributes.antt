-- A node with other attributes, after chmod(2), chown(2), acl_set_file(3) and mac_set_file(3).
use Rattle.std.specs.Prelude.{ℕ, List, Option}
use Rattle.std.specs.Result.{result_ok, result_unwrap_or}
use Rattle.label_core.specs.declared.element.Element.{Element}
use Rattle.acl_core.specs.declared.entry.Entry.{Entry}
use Rattle.acl_core.specs.Acl.{acl_of}
use Rattle.acl_core.specs.Mode.{with_mode}
use Rattle.call_words.specs.declared.attr.WhichList.{WhichList}
use Rattle.call_words.specs.declared.attr.WhichList.TheVariants.{Access, Default}
use Rattle.tree_model.specs.Tree.{NodeRecord}

abbrev pub with_list : List Entry → NodeRecord → NodeRecord
with_list list node = record node { attrs = record (node.attrs) { list = list } }

-- the list with the bits of a mode
abbrev pub with_bits : ℕ → NodeRecord → NodeRecord
with_bits mode node = with_list (with_mode node.attrs.list mode) node

abbrev pub with_owner : ℕ → ℕ → NodeRecord → NodeRecord
with_owner uid gid node = record node { attrs = record (node.attrs) { owner = uid; group = gid } }

abbrev pub with_element : Element → NodeRecord → NodeRecord
with_element element node = record node { attrs = record (node.attrs) { element = element } }

abbrev pub with_default : Option (List Entry) → NodeRecord → NodeRecord
with_default list node = record node { default = list }

-- the node with the list that entries make, or without a default list where they make none
abbrev pub with_entries : WhichList → List Entry → NodeRecord → NodeRecord
with_entries Access entries node = with_list (result_unwrap_or (acl_of entries) node.attrs.list) node
with_entries Default entries node = with_default (result_ok (acl_of entries)) node
