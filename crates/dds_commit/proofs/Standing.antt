use Rattle.std.proofs.Common.{◌≡◌, ℕ, ◌≤◌, ◌==◌, ◌&&◌, inl, inr, true, false, not, List, [], ◌∷◌, ◌++◌, refl, sym, ap, ◌∙◌, subst, cond}
use Rattle.std.proofs.lemmas.Bool.{cases_Bool, eqb-true}
use Rattle.std.specs.List.{AllByRecursion}
use Rattle.dds_base.specs.BrickList.{has}
use Rattle.dds_base.specs.NodeSet.{has_node}
use Rattle.dds_base.specs.Number.{Txn}
use Rattle.dds_base.specs.declared.node_set.NodeSet.{NodeSet}
use Rattle.dds_base.specs.declared.number.NodeNo.{NodeNo}
use Rattle.dds_base.specs.declared.pending.Pending.{Pending}
use Rattle.dds_base.specs.declared.pending.TxnStatus.{TxnStatus}
use Rattle.dds_books.specs.Books.{Book}
use Rattle.dds_books.specs.Placed as placed
use Rattle.dds_core.proofs.Lists.{all-both, all-map}
use Rattle.dds_letters.specs.declared.letter.Letter.{Letter}
use Rattle.dds_letters.specs.declared.letter.Letter.TheVariants as letter
use Rattle.dds_net.proofs.Letters.{first-all}
use Rattle.dds_net.proofs.Runs.{IsBuilt}
use Rattle.dds_net.specs.Event.{History, Takes, brick_takes}
use Rattle.dds_net.specs.Net.{Net, a_brick, a_library, Sizes}
use Rattle.dds_states.specs.Turn.{unknown_others, without}
use Rattle.dds_states.specs.declared.brick_state.BrickState.{BrickState}
use Rattle.dds_states.specs.declared.library_state.LibraryState.{LibraryState}
use Rattle.dds_resolve.proofs.CallRows.{Untrimmed}
use Rattle.dds_resolve.proofs.Grounds.{begins}
use Rattle.dds_resolve.proofs.Here.{OwnLetter}
use Rattle.dds_resolve.proofs.Ready.{Readies}
use Rattle.dds_resolve.proofs.ReadyKeeps.{was-ready}
use Rattle.dds_resolve.proofs.TeamKeeps.{notice-ok}
use Rattle.dds_resolve.proofs.TeamNotices.{NoticeOk}
use Rattle.dds_resolve.proofs.Whole.{Parts}
use Rattle.dds_resolve.specs.Resolving.{own_at}
use Rattle.dds_resolve.specs.Team as team
use Rattle.dds_resolve.specs.Teams.{NodeOk, OpensOf, ground}
use Rattle.dds_talk.proofs.BrickTakes.{IsBounded}
use Rattle.dds_talk.proofs.Grounds as grounds
use Rattle.dds_talk.proofs.Letters.{alone-live, has-without}
use Rattle.dds_talk.proofs.Locks.{kept-trim}
use Rattle.dds_talk.proofs.Parts.{same-self}
use Rattle.dds_talk.specs.Books.{Books}
use Rattle.dds_talk.specs.Parts.{Commit}
use Rattle.dds_talk.specs.Resolve.{Agreed}
use Rattle.dds_talk.specs.Seen.{Alone, asks, is_pending, one}
use Rattle.dds_talk.specs.Table.Ask.{prepare}
use Rattle.dds_books.specs.Calls.{SentOk}
use Rattle.dds_commit.proofs.Agreeing.{agreed, frozen-is}
use Rattle.dds_commit.proofs.Low.{Low}
use Rattle.dds_commit.proofs.Opens.{asked-opens, each-pending, pending-open}
use Rattle.dds_commit.proofs.Senders.{bounded, brick-at}

-- What is so where a brick takes a letter, by all parts before.

pub record Case (z : Sizes) (h : History) (n : Net) (a : Book) (b : Books) (at from : ℕ) (l : Letter) (s : BrickState) : Type 0 where
  pub few : z.bricks ≤ 64
  pub some : z.libraries ≤ 16
  pub built : IsBuilt z n
  pub fits : Takes z n at from l (a_brick s)
  pub low : Low z h n a
  pub parts : Commit z n b
  pub resolve : Parts z n b

alone-without : (ns : List NodeNo) (f : ℕ) → Alone ns → Alone (without ns f)
alone-without [] f a = tt
alone-without (n ∷ ns) f a =
    elim (n == f) as (λ b. Alone (cond (not b) (n ∷ without ns f) (without ns f))) [
      | true ↦ alone-without ns f a.1
      | false ↦ (has-without ns f n ∙ ap (λ b. b && not (n == f)) a.0, alone-without ns f a.1)
    ]

own-letter : (T : Txn → Type 0) (z : Sizes) (from at : ℕ) (l : Letter) → placed.LetterOk T z from at l → OwnLetter from l
own-letter T z from at (letter.Prepare txn caller call below name stamp list op) k = sym k.0.library
own-letter T z from at (letter.Commit txn) k = sym k.library
own-letter T z from at (letter.Abort txn) k = sym k.library
own-letter T z from at other k = tt

untrimmed : (s : BrickState) (t : Txn) (l : Letter) → IsBounded l t → Untrimmed s t l
untrimmed s t (letter.Prepare txn caller call below name stamp list op) h = kept-trim s.locks.outcomes txn.library below t h
untrimmed s t other h = tt

no-both : (x : LibraryState) (y : BrickState) → a_library x ≡ a_brick y → ⊥
no-both x y e = cc

module _ {z : Sizes} {h : History} {n : Net} {a : Book} {b : Books} {at from : ℕ} {l : Letter} {s : BrickState} (c : Case z h n a b at from l s) where
  pub base : grounds.Ground z n
  base = record { few = c.few; some = c.some; linked = c.low.0; built = c.built }

  -- the letter, and the brick, as they were placed
  pub letter-placed : placed.LetterOk (placed.Made n) z from at l
  letter-placed = first-all (placed.LetterOk (placed.Made n) z from at) z n at from l c.fits.letter (c.low.2.letters from at)

  pub brick-placed : placed.BrickOk (placed.Made n) z at s
  brick-placed = subst (placed.NodeOk (placed.Made n) z at) c.fits.here (c.low.2.nodes at)

  pub letter-team : team.LetterOk (ground z n b.list) from at l
  letter-team = first-all (team.LetterOk (ground z n b.list) from at) z n at from l c.fits.letter (c.resolve.teams.letters from at)

  pub sender : OwnLetter from l
  sender = own-letter (placed.Made n) z from at l letter-placed

  status-speaker : (x : Txn) (st : TxnStatus) → placed.LetterOk (placed.Made n) z from at (letter.Status x st) → (y : BrickState) × (n.node from ≡ a_brick y)
  status-speaker x st k = let y = brick-at z n from c.few c.low.2 k.0.sender in (y.brick, y.here)

  pub speaker : (x : Txn) (st : TxnStatus) → l ≡ letter.Status x st → (y : BrickState) × (n.node from ≡ a_brick y)
  speaker x st e = status-speaker x st (subst (placed.LetterOk (placed.Made n) z from at) e letter-placed)

  -- what the brick has pending, or is asked for, is open
  pub pending-opens : AllByRecursion (λ (p : Pending). team.OpenIf (ground z n b.list) p.txn) s.locks.pending
  pending-opens =
      all-map (λ (p : Pending). placed.PendingOk (placed.Made n) z at p × (is_pending s.locks.pending p.txn ≡ true))
      (λ (p : Pending). team.OpenIf (ground z n b.list) p.txn) s.locks.pending
      (λ p k. pending-open z n b p.txn at s base c.parts c.fits.here c.fits.live k.0.0 k.1)
      (all-both (placed.PendingOk (placed.Made n) z at) (λ (p : Pending). is_pending s.locks.pending p.txn ≡ true) s.locks.pending brick-placed.its_locks.0
      (each-pending s.locks.pending))

  letter-opens : (m : Letter) (rest : List Letter) → n.channel from at ≡ m ∷ rest → placed.LetterOk (placed.Made n) z from at m
      → team.OpenOk (ground z n b.list) m
  letter-opens (letter.Prepare txn caller call below name stamp list op) rest e k =
      asked-opens z n b txn at s (asks txn rest) base c.parts c.fits.here c.fits.live k.0.made
      (ap (λ i. asks txn (n.channel i at)) k.0.library ∙ ap (asks txn) e ∙ ap (λ x. one x prepare ++ asks txn rest) (same-self txn))
  letter-opens other rest e k = tt

  pub opens : OpensOf (ground z n b.list) (brick_takes at from l s)
  opens = (pending-opens, letter-opens l c.fits.letter.others c.fits.letter.first letter-placed)

  -- of an attempt that is open at a stopped library
  pub alone : (t : Txn) (known : NodeSet) → (ground z n b.list).frozen t ≡ true → Alone (unknown_others (b.list t) at known)
  alone t known e =
      let f = frozen-is n t e in
      alone-without _ at (alone-live (b.list t) (has_node known) ((c.parts.calls t.library f.library f.here).groups t refl).alone)

  pub library-apart : (t : Txn) → (ground z n b.list).frozen t ≡ true → (t.library == at) ≡ false
  library-apart t e =
      let f = frozen-is n t e in
      elim (cases_Bool (t.library == at)) [
        | inl i ↦ absurd (no-both f.library s (sym f.here ∙ ap n.node (eqb-true t.library at i) ∙ c.fits.here))
        | inr i ↦ i
      ]

  pub agree : (t : Txn) (m : ℕ) (y : BrickState) → n.node m ≡ a_brick y → y.stopped ≡ false → has (b.list t) m ≡ true → (ground z n b.list).frozen t ≡ true
      → Agreed (b.decided t) (own_at y t)
  agree t m y is lives listed e = agreed z n b t m y base c.parts is lives listed e

  pub trims : (t : Txn) → (ground z n b.list).frozen t ≡ true → Untrimmed s t l
  trims t e =
      let f = frozen-is n t e in
      let sent = first-all (SentOk from (n.node from)) z n at from l c.fits.letter (c.low.1.letters from at) in
      untrimmed s t l (bounded z n at from l t f.library letter-placed sent f.here f.opened)

  -- what is noted of an attempt at the brick was decided
  pub unknown : (k : ℕ) (y : LibraryState) → n.node k ≡ a_library y → has_node y.known at ≡ false
  unknown k y is = grounds.brick-unknown z n k at y s base is c.fits.here c.fits.live

  -- the parts on resolving, of the brick and its letter
  pub brick-ok : team.BrickOk (ground z n b.list) at s
  brick-ok = begins s (subst (NodeOk (ground z n b.list) at) c.fits.here (c.resolve.teams.nodes at)) pending-opens

  pub readies : Readies s.known at s
  readies = was-ready n at s c.fits.here c.resolve.ready

  pub notice : NoticeOk (ground z n b.list) from l
  notice = notice-ok z n b.list at from l c.few c.some c.fits.letter c.low.0
