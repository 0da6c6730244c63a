-- The word that names the server, among the words.
use Rattle.std.proofs.Common.{◌≡◌, ℕ, List, Some, None, codes, sym, subst}
use Rattle.std.specs.Prelude.{IsSomeAnd}
use Rattle.slurm_client.specs.Address.{IsAddress}
use Rattle.slurmd_link.specs.Asked.{IsServer, word_of}

pub is_server : (words : List (List ℕ)) (word user name : List ℕ) (port : ℕ) → Some word ≡ word_of (codes "--ctld=") words
    → IsAddress word user port → name ≡ user → IsServer words name port
is_server words word user name port found address same =
    subst (λ f. IsSomeAnd f (λ w. IsAddress w name port)) found (subst (λ n. IsAddress word n port) (sym same) address)

pub address_of : (words : List (List ℕ)) (word user : List ℕ) (port : ℕ) → Some word ≡ word_of (codes "--ctld=") words
    → IsServer words user port → IsAddress word user port
address_of words word user port found is = subst (λ f. IsSomeAnd f (λ w. IsAddress w user port)) (sym found) is

pub no_server : (words : List (List ℕ)) (user : List ℕ) (port : ℕ) → None ≡ word_of (codes "--ctld=") words
    → IsServer words user port → ⊥
no_server words user port found is = subst (λ f. IsSomeAnd f (λ w. IsAddress w user port)) (sym found) is
