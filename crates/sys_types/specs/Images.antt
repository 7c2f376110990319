-- The programs, and their names.
use Rattle.std.specs.Prelude.{ℕ, List, [], ◌∷◌, codes}
use Rattle.sys_types.specs.declared.image.Image.{Image}
use Rattle.sys_types.specs.declared.image.Image.TheVariants as image

abbrev pub images : List Image
images =
    image.Init ∷ image.Getty ∷ image.Login ∷ image.Sh ∷ image.Cat ∷ image.Echo ∷ image.Ls ∷ image.Getfacl
    ∷ image.Getfmac ∷ image.Stty ∷ image.Tty ∷ image.Ps ∷ image.Id ∷ image.Mkdir ∷ image.Rm ∷ image.Chmod
    ∷ image.Chown ∷ image.Setfacl ∷ image.Setfmac ∷ image.Kill ∷ image.Revoke ∷ image.Halt ∷ []

abbrev pub image_name : Image → List ℕ
image_name image.Init = codes "init"
image_name image.Getty = codes "getty"
image_name image.Login = codes "login"
image_name image.Sh = codes "sh"
image_name image.Cat = codes "cat"
image_name image.Echo = codes "echo"
image_name image.Ls = codes "ls"
image_name image.Getfacl = codes "getfacl"
image_name image.Getfmac = codes "getfmac"
image_name image.Stty = codes "stty"
image_name image.Tty = codes "tty"
image_name image.Ps = codes "ps"
image_name image.Id = codes "id"
image_name image.Mkdir = codes "mkdir"
image_name image.Rm = codes "rm"
image_name image.Chmod = codes "chmod"
image_name image.Chown = codes "chown"
image_name image.Setfacl = codes "setfacl"
image_name image.Setfmac = codes "setfmac"
image_name image.Kill = codes "kill"
image_name image.Revoke = codes "revoke"
image_name image.Halt = codes "halt"
