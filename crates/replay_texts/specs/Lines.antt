-- Lines of an association file.
use Rattle.std.specs.Prelude.{ℕ, List, ◌++◌, Option, Some, None, codes}

-- an account below root
abbrev pub account_text : List ℕ → List ℕ
account_text name = codes "Parent - 'root'\nAccount - '" ++ name ++ codes "'\n"

-- the name of an account, where None is root
abbrev pub account_name : Option (List ℕ) → List ℕ
account_name (Some name) = name
account_name None = codes "root"

-- a user of an account
abbrev pub user_text : Option (List ℕ) → List ℕ → List ℕ
user_text account user =
    codes "Parent - '" ++ account_name account ++ codes "'\nUser - '" ++ user ++ codes "'\n"
