-- Trees whose ranks were worked by hand.
use Rattle.std.specs.Prelude.{ℕ, true, false, List, [], ◌∷◌, Option, None, Some}
use Rattle.run_limits.specs.declared.tree.TreeNode.{TreeNode}

abbrev pub account : Option ℕ → ℕ → TreeNode
account parent shares = record { parent = parent; shares = shares; user = false }

abbrev pub user : Option ℕ → ℕ → TreeNode
user parent shares = record { parent = parent; shares = shares; user = true }

-- two accounts, two users of the first and one of the second
abbrev pub two_accounts : List TreeNode
two_accounts = account None 1 ∷ account None 1 ∷ user (Some 0) 1 ∷ user (Some 0) 1 ∷ user (Some 1) 1 ∷ []

-- one account of two users
abbrev pub two_users : List TreeNode
two_users = account None 1 ∷ user (Some 0) 1 ∷ user (Some 0) 1 ∷ []

-- one account of two users, and a user beside it
abbrev pub user_beside : List TreeNode
user_beside = account None 1 ∷ user (Some 0) 1 ∷ user (Some 0) 1 ∷ user None 1 ∷ []
