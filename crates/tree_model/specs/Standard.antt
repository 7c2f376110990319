-- The nodes that a boot makes. Which they are, with their modes and elements, is this project's own; their places are those
-- of hier(7).
use Rattle.std.specs.Prelude.{ℕ, ◌+◌, Bool, false, List, [], ◌∷◌, ◌++◌, map, flat_map, None, Some, slice_index_or, if◌then◌else◌, codes}
use Rattle.std.specs.List.{range_with_len}
use Rattle.std.specs.Str.{byte}
use Rattle.label_core.specs.declared.element.Element.{Element}
use Rattle.label_core.specs.declared.element.Element.TheVariants as element
use Rattle.acl_core.specs.Mode.{minimal_list}
use Rattle.sys_types.specs.declared.node.Kind.{Kind}
use Rattle.sys_types.specs.declared.node.Kind.TheVariants as kind
use Rattle.sys_types.specs.declared.image.Image.{Image}
use Rattle.sys_types.specs.Images.{images, image_name}
use Rattle.user_db.specs.declared.boot.Boot.{Boot}
use Rattle.user_db.specs.declared.user.User.{User}
use Rattle.access_rule.specs.declared.Attrs.{Attrs}
use Rattle.tree_model.specs.Tree.{NodeAt, Nodes, new_node, nodes_from, is_dir}

-- attributes by an owner, a group, a mode and an element
abbrev pub attrs_of_owner : ℕ → ℕ → Kind → ℕ → Element → Attrs
attrs_of_owner uid gid kind mode element = record { element = element; owner = uid; group = gid; list = minimal_list mode; is_dir = is_dir kind }

-- a node of the superuser
abbrev pub super_node : List (List ℕ) → Kind → ℕ → Element → List ℕ → NodeAt
super_node path kind mode element contents = record { path = path; node = new_node kind (attrs_of_owner 0 0 kind mode element) None contents }

-- the modes 755, 777, 700, 600, 644 and 666 in octal
abbrev pub mode_755 : ℕ
mode_755 = 493

abbrev pub mode_777 : ℕ
mode_777 = 511

abbrev pub mode_700 : ℕ
mode_700 = 448

abbrev pub mode_600 : ℕ
mode_600 = 384

abbrev pub mode_644 : ℕ
mode_644 = 420

abbrev pub mode_666 : ℕ
mode_666 = 438

abbrev pub root_node : NodeAt
root_node = super_node [] kind.Dir mode_755 element.Low []

abbrev pub bin_node : NodeAt
bin_node = super_node (codes "bin" ∷ []) kind.Dir mode_755 element.Low []

abbrev pub etc_node : NodeAt
etc_node = super_node (codes "etc" ∷ []) kind.Dir mode_755 element.Low []

abbrev pub home_dir_node : NodeAt
home_dir_node = super_node (codes "home" ∷ []) kind.Dir mode_755 element.Low []

abbrev pub dev_node : NodeAt
dev_node = super_node (codes "dev" ∷ []) kind.Dir mode_755 element.Equal []

abbrev pub tmp_node : NodeAt
tmp_node = super_node (codes "tmp" ∷ []) kind.Dir mode_777 element.Equal []

-- the directories
abbrev pub standard_dirs : List NodeAt
standard_dirs = root_node ∷ bin_node ∷ etc_node ∷ home_dir_node ∷ dev_node ∷ tmp_node ∷ []

-- what the file of a program holds
abbrev pub image_text : Image → List ℕ
image_text image = codes "image " ++ image_name image ++ codes "\n"

-- the file of a program
abbrev pub image_node : Image → NodeAt
image_node image = super_node (codes "bin" ∷ image_name image ∷ []) kind.File mode_755 element.Low (image_text image)

-- the digit of a number below ten
abbrev pub digit : ℕ → ℕ
digit number = byte "0" + number

-- whether a terminal line is on, as a line of text
abbrev pub tty_line : ℕ → Bool → List ℕ
tty_line number on = codes "tty " ++ digit number ∷ (if on then codes " on\n" else codes " off\n")

abbrev pub tty_text : List Bool → ℕ → List ℕ
tty_text on number = tty_line number (slice_index_or on number false)

abbrev pub ttys_text : List Bool → List ℕ
ttys_text on = flat_map (tty_text on) (range_with_len 0 8)

-- the files of users and of lines. A line of text for each user comes with the boot texts that name users.
abbrev pub list_nodes : List Bool → List NodeAt
list_nodes on =
    super_node (codes "etc" ∷ codes "users" ∷ []) kind.File mode_600 element.Low []
    ∷ super_node (codes "etc" ∷ codes "ttys" ∷ []) kind.File mode_644 element.Low (ttys_text on)
    ∷ []

-- the name of a terminal line, of a number below ten
abbrev pub line_name : ℕ → List ℕ
line_name number = codes "tty" ++ digit number ∷ []

-- a terminal line
abbrev pub line_node : ℕ → NodeAt
line_node number = super_node (codes "dev" ∷ line_name number ∷ []) (kind.Line number) mode_600 element.Equal []

-- the caller's own line
abbrev pub tty_node : NodeAt
tty_node = super_node (codes "dev" ∷ codes "tty" ∷ []) kind.Tty mode_666 element.Equal []

-- a user's home
abbrev pub home_node : User → NodeAt
home_node user = record {
  path = codes "home" ∷ user.name ∷ [];
  node = new_node kind.Dir (attrs_of_owner user.cred.uid user.cred.gid kind.Dir mode_700 user.label.active) None [];
}

-- the directories and the files of programs
abbrev pub with_images : List NodeAt
with_images = standard_dirs ++ map image_node images

-- and the terminal lines
abbrev pub with_lines : List NodeAt
with_lines = (with_images ++ map line_node (range_with_len 0 8)) ++ tty_node ∷ []

-- all nodes of a boot
unfoldable pub standard : Boot → List NodeAt
standard boot = (with_lines ++ list_nodes boot.on) ++ map home_node boot.users

-- the tree of a boot
unfoldable pub standard_tree : Boot → Nodes
standard_tree boot = nodes_from (map (λ n. Some n) (standard boot))
