use Rattle.std.proofs.Common.{◌≡◌, ℕ, ◌==◌, ◌&&◌, Bool, true, false, not, [], ◌∷◌, refl, ap, ◌∙◌, subst}
use Rattle.dds_net.proofs.Quiet.{IsEmpty}
use Rattle.dds_net.specs.Net.{Net, Sizes, is_in}
use Rattle.dds_law_notice.proofs.Keeps.{AreLinked}
use Rattle.dds_law_notice.proofs.Link.{Link, told, over}
use Rattle.dds_law_notice.proofs.Views.{knows, view}

-- Where nothing is on its way, each live node knows each other node that has stopped.

knows-all : (known : Bool) → Link false [] true known → known ≡ true
knows-all known (told [] e s) = cc
knows-all known (told (x ∷ front) e s) = cc
knows-all true (over k e h) = refl
knows-all false (over k e h) = cc

pub all-known : (z : Sizes) (n : Net) → AreLinked z n → IsEmpty n → (a b : ℕ) → is_in z b ≡ true → (a == b) ≡ false
    → (view (n.node a)).stopped ≡ true → (view (n.node b)).stopped ≡ false → knows (view (n.node b)) a ≡ true
all-known z n links empty a b inside apart stopped live =
    let known = knows (view (n.node b)) a in
    let dead : ((view (n.node a)).stopped && not (a == b)) ≡ true = ap (λ c. c && not (a == b)) stopped ∙ ap not apart in
    knows-all known (subst (λ c. Link false c true known) (empty a b)
    (subst (λ d. Link d (n.channel a b) true known) live
    (subst (λ s. Link (view (n.node b)).stopped (n.channel a b) s known) dead (links a b inside))))
