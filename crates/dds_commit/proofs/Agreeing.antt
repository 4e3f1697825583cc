use Rattle.std.proofs.Common.{◌≡◌, ℕ, Bool, true, false, Option, Some, None, refl, subst}
use Rattle.std.proofs.lemmas.Bool.{and_parts}
use Rattle.std.specs.FinMap.{get}
use Rattle.dds_base.specs.BrickList.{has}
use Rattle.dds_base.specs.NodeSet.{has_node}
use Rattle.dds_base.specs.Number.{Txn}
use Rattle.dds_net.specs.Net.{Net, Node, nowhere, a_brick, a_library, Sizes}
use Rattle.dds_states.specs.declared.brick_state.BrickState.{BrickState}
use Rattle.dds_states.specs.declared.library_state.LibraryState.{LibraryState}
use Rattle.dds_resolve.specs.Resolving.{own_at}
use Rattle.dds_resolve.specs.Teams.{is_frozen}
use Rattle.dds_talk.proofs.Grounds.{Ground, brick-unknown}
use Rattle.dds_talk.specs.Books.{Books}
use Rattle.dds_talk.specs.Parts.{Commit, SureAt}
use Rattle.dds_talk.specs.Resolve.{Agreed}
use Rattle.dds_talk.specs.Seen.{at, at_of, is_open, is_pending}
use Rattle.dds_talk.specs.Table.{At}
use Rattle.dds_talk.specs.Table.At.{Unprepared, Prepared, Committed, Aborted}

-- `decide`, `noted` and `kept` together: how far an attempt of a stopped library is at a live member fits what was decided.

-- an attempt that is open at its stopped library
pub record Frozen (n : Net) (t : Txn) : Type 0 where
  pub library : LibraryState
  pub here : n.node t.library ≡ a_library library
  pub stopped : library.stopped ≡ true
  pub opened : is_open library t ≡ true

frozen-if : (n : Net) (t : Txn) (x : Node) → n.node t.library ≡ x → is_frozen x t ≡ true → Frozen n t
frozen-if n t nowhere e h = cc
frozen-if n t (a_brick s) e h = cc
frozen-if n t (a_library s) e h =
    let k = and_parts s.stopped (is_open s t) h in
    record { library = s; here = e; stopped = k.0; opened = k.1 }

pub frozen-is : (n : Net) (t : Txn) → is_frozen (n.node t.library) t ≡ true → Frozen n t
frozen-is n t h = frozen-if n t (n.node t.library) refl h

sure-agrees : (a : At) → SureAt a → Agreed true a
sure-agrees Unprepared h = h
sure-agrees Prepared h = h
sure-agrees Committed h = h
sure-agrees Aborted h = h

fits-decided : (d p : Bool) (o : Option Bool) → (d ≡ true → SureAt (at_of p o)) → (o ≡ Some true → d ≡ true) → Agreed d (at_of p o)
fits-decided true p o sure noted = sure-agrees (at_of p o) (sure refl)
fits-decided false true o sure noted = tt
fits-decided false false None sure noted = tt
fits-decided false false (Some true) sure noted = let bad : false ≡ true = noted refl in cc
fits-decided false false (Some false) sure noted = tt

pub agreed-if : (z : Sizes) (n : Net) (b : Books) (t : Txn) (m : ℕ) (y : BrickState) → Commit z n b → n.node m ≡ a_brick y → y.stopped ≡ false
    → ((l : LibraryState) → n.node t.library ≡ a_library l → has_node l.known m ≡ false) → has (b.list t) m ≡ true
    → is_frozen (n.node t.library) t ≡ true → Agreed (b.decided t) (own_at y t)
agreed-if z n b t m y parts is lives unknown listed frozen =
    let f = frozen-is n t frozen in
    let kept : b.noted m t ≡ get y.locks.outcomes t = parts.kept t m f.library y f.here is lives f.opened in
    subst (λ o. Agreed (b.decided t) (at y.locks.pending o t)) kept
    (fits-decided (b.decided t) (is_pending y.locks.pending t) (b.noted m t)
    (λ d. (parts.decide t m f.library y (record {
      meets = record { library = f.here; member = is; unknown = unknown f.library f.here };
      live = lives;
      member = listed;
      decided = d;
    })).at)
    (λ e. parts.noted m t e))

pub agreed : (z : Sizes) (n : Net) (b : Books) (t : Txn) (m : ℕ) (y : BrickState) → Ground z n → Commit z n b → n.node m ≡ a_brick y → y.stopped ≡ false
    → has (b.list t) m ≡ true → is_frozen (n.node t.library) t ≡ true → Agreed (b.decided t) (own_at y t)
agreed z n b t m y g parts is lives listed frozen =
    agreed-if z n b t m y parts is lives (λ l here. brick-unknown z n t.library m l y g here is lives) listed frozen
