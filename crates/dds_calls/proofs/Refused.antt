use Rattle.std.proofs.Common.{◌≡◌, ℕ, inl, inr, ◌==◌, ◌&&◌, true, false, Some, List, ◌++◌, length, refl, sym}
use Rattle.std.proofs.Common.{ap, ◌∙◌}
use Rattle.std.proofs.Common.{subst, arith}
use Rattle.std.proofs.lemmas.Bool.{and_from, eq-eqb}
use Rattle.std.proofs.lemmas.Option.{slice_get_within}
use Rattle.std.specs.Prelude.{slice_get}
use Rattle.dds_base.specs.Name.{Name}
use Rattle.dds_base.specs.Number.{Txn, StampOf}
use Rattle.dds_base.specs.Op.{the_key}
use Rattle.dds_base.specs.declared.number.CallNo.{CallNo}
use Rattle.dds_base.specs.declared.number.NodeNo.{NodeNo}
use Rattle.dds_base.specs.declared.op.Met.{Met}
use Rattle.dds_base.specs.declared.op.Op.{Op}
use Rattle.dds_brick_rows.specs.Refusal.{get_refusal, has_no_room, is_locked, joins_key, stale_against, update_refusal}
use Rattle.dds_cluster.specs.Trace.{is_run, run_of}
use Rattle.dds_cluster.specs.declared.step.Step.{Step}
use Rattle.dds_cluster.specs.declared.trace.Asked.{Asked}
use Rattle.dds_cluster.specs.declared.trace.Told.{Told}
use Rattle.dds_letters.specs.declared.letter.Letter.{Letter}
use Rattle.dds_letters.specs.declared.letter.Letter.TheVariants as letter
use Rattle.dds_letters.specs.declared.refusal.Denial.TheVariants as denial
use Rattle.dds_letters.specs.declared.refusal.Refusal.{Refusal}
use Rattle.dds_letters.specs.declared.refusal.Refusal.TheVariants as refusal
use Rattle.dds_locks.specs.Leases.{lease_covers}
use Rattle.dds_locks.specs.Pending.{holder}
use Rattle.dds_net.proofs.Journals.{handles-later}
use Rattle.dds_order_rows.specs.OwnOrder.{met_of}
use Rattle.dds_script.specs.Opening.{IsOpening, OpeningOf}
use Rattle.dds_states.specs.Leaf.{leaf_for}
use Rattle.dds_states.specs.declared.brick_state.BrickState.{BrickState}
use Rattle.dds_talk.specs.Seen.{is_pending}
use Rattle.dds_world.specs.Causes.{AskedOf, FullBy, IsAskedAt, MetBy, if_of_call}
use Rattle.dds_world.specs.Places.{Handles}
use Rattle.dds_world.specs.Refusals.{CallWasRefused, GetWasRefused, UpdateWasDenied}
use Rattle.dds_calls.proofs.Handled.{same-call, taken, taken-asked}
use Rattle.dds_calls.proofs.Locked.{get-unlocked, other-holder, prepare-unlocked}
use Rattle.dds_calls.proofs.Whys.{get-lease, get-lock, get-stale, held, stale-no-lease, stale-no-lock, update-lease, update-lock, update-stale, was-full}
use Rattle.dds_calls.proofs.Whys.{was-refused}

-- A call that a brick refused by an answer's place met what it was refused for.

-- a call of a run, and its answer at a place
pub record Case (o : OpeningOf) (journal : List Step) (a : Asked) (told : Told) : Type 0 where
  pub opening : IsOpening o
  pub run : is_run o journal ≡ true
  pub index : ℕ
  pub there : slice_get (run_of o journal).asked index ≡ Some a
  pub front : List Step
  pub rest : List Step
  pub whole : front ++ rest ≡ journal
  pub place : length front ≡ told.place

-- what the brick was asked, and that it took it within the call
abbrev get_asked : (s : BrickState) (txn : Txn) (key : ℕ) (name : Name) (stamp : StampOf) → AskedOf
get_asked s txn key name stamp = record { txn = txn; key = key; name = name; stamp = stamp; is_update = false; refusal = get_refusal s key name stamp }

abbrev update_asked : (s : BrickState) (txn : Txn) (op : Op) (name : Name) (stamp : StampOf) → AskedOf
update_asked s txn op name stamp =
    record { txn = txn; key = the_key op; name = name; stamp = stamp; is_update = true; refusal = update_refusal s (the_key op) name stamp }

of-call : (a : Asked) (caller : ℕ) (call : CallNo) (x : AskedOf) → a.caller ≡ caller → a.call.0 ≡ call.0
    → if_of_call (caller == a.caller && call.0 == a.call.0) x ≡ Some x
of-call a caller call x e f =
    ap (λ b. if_of_call b x)
    (and_from (caller == a.caller) (call.0 == a.call.0) (eq-eqb caller a.caller (sym e)) (eq-eqb call.0 a.call.0 (sym f)))

handled : (o : OpeningOf) (journal : List Step) (a : Asked) (told : Told) (c : Case o journal a told) (at : ℕ) (brick : NodeNo) (l : Letter) (s : BrickState)
    → Handles o c.front at brick l s → Handles o journal at brick l s
handled o journal a told c at brick l s h = subst (λ j. Handles o j at brick l s) c.whole (handles-later o c.front c.rest at brick l s h)

took-get : (o : OpeningOf) (journal : List Step) (a : Asked) (told : Told) (c : Case o journal a told) (at : ℕ) (brick : NodeNo) (s : BrickState) (txn : Txn)
    (caller : ℕ) (call : CallNo) (key : ℕ) (name : Name) (stamp : StampOf) → Handles o c.front at brick (letter.Get txn caller call key name stamp) s
    → a.caller ≡ caller → a.call.0 ≡ call.0 → (IsAskedAt o journal a told brick s (get_asked s txn key name stamp)) × (is_pending s.locks.pending txn ≡ false)
took-get o journal a told c at brick s txn caller call key name stamp h e f =
    let l = letter.Get txn caller call key name stamp in
    let inside = slice_get_within c.front at _ h.step in
    let place = c.place in
    let here = handled o journal a told c at brick l s h in
    let t = taken o journal at brick l s c.run here in
    let k = same-call o journal at c.index _ a caller call _ c.opening.ranges c.run here.step c.there
    (taken-asked o journal at here.from brick l s c.opening.ranges t) e f in
    let before = k.before in (
      record {
        at = at;
        within = record { from_input = omega (arith, before); to_answer = omega (arith, inside, place) };
        sent = l;
        handles = here;
        is = of-call a caller call (get_asked s txn key name stamp) e f;
      },
      get-unlocked o journal at here.from brick s txn caller call key name stamp c.opening t,
    )

pub record TookUpdate (o : OpeningOf) (journal : List Step) (a : Asked) (told : Told) (brick : NodeNo) (s : BrickState) (txn : Txn) (op : Op) (x : AskedOf)
    : Type 0 where
  pub there : IsAskedAt o journal a told brick s x
  pub unlocked : is_pending s.locks.pending txn ≡ false
  pub op_is : a.op ≡ op

took-update : (o : OpeningOf) (journal : List Step) (a : Asked) (told : Told) (c : Case o journal a told) (at : ℕ) (brick : NodeNo) (s : BrickState) (txn : Txn)
    (caller : ℕ) (call : CallNo) (below : ℕ) (name : Name) (stamp : StampOf) (list : List NodeNo) (op : Op)
    → Handles o c.front at brick (letter.Prepare txn caller call below name stamp list op) s
    → a.caller ≡ caller → a.call.0 ≡ call.0 → TookUpdate o journal a told brick s txn op (update_asked s txn op name stamp)
took-update o journal a told c at brick s txn caller call below name stamp list op h e f =
    let l = letter.Prepare txn caller call below name stamp list op in
    let inside = slice_get_within c.front at _ h.step in
    let place = c.place in
    let here = handled o journal a told c at brick l s h in
    let t = taken o journal at brick l s c.run here in
    let k = same-call o journal at c.index _ a caller call _ c.opening.ranges c.run here.step c.there
    (taken-asked o journal at here.from brick l s c.opening.ranges t) e f in
    let before = k.before in
    record {
      there = record {
        at = at;
        within = record { from_input = omega (arith, before); to_answer = omega (arith, inside, place) };
        sent = l;
        handles = here;
        is = of-call a caller call (update_asked s txn op name stamp) e f;
      };
      unlocked = prepare-unlocked o journal at here.from brick s txn caller call below name stamp list op c.opening t here.live;
      op_is = k.op_is;
    }

-- The causes

met-get : (o : OpeningOf) (journal : List Step) (a : Asked) (told : Told) (c : Case o journal a told) (brick : NodeNo) (txn : Txn) (why : Refusal)
    → (g : GetWasRefused o c.front brick txn why) → a.caller ≡ g.caller → a.call.0 ≡ g.call.0 → MetBy o journal a told (met_of why brick)
met-get o journal a told c brick txn refusal.Lease g e f =
    let s = g.state in
    let k = took-get o journal a told c g.took.at brick s txn g.caller g.call g.key g.name g.stamp g.took.handles e f in
    let st = stale_against (leaf_for s.leaves g.key) g.name g.stamp in
    record {
      state = s;
      asked = get_asked s txn g.key g.name g.stamp;
      there = k.0;
      refused = g.true_then;
      met = inl (get-lease (joins_key s.order g.key) st (is_locked s g.key)
          (λ r is. stale-no-lease (leaf_for s.leaves g.key) g.name g.stamp r is) g.true_then);
    }
met-get o journal a told c brick txn refusal.Lock g e f =
    let s = g.state in
    let k = took-get o journal a told c g.took.at brick s txn g.caller g.call g.key g.name g.stamp g.took.handles e f in
    let st = stale_against (leaf_for s.leaves g.key) g.name g.stamp in
    let h = held (holder s.locks.pending g.key) (get-lock (joins_key s.order g.key) st (is_locked s g.key)
    (λ r is. stale-no-lock (leaf_for s.leaves g.key) g.name g.stamp r is) g.true_then) in
    record {
      state = s;
      asked = get_asked s txn g.key g.name g.stamp;
      other = h.0;
      there = k.0;
      refused = g.true_then;
      holds = h.1;
      differs = other-holder s.locks.pending g.key h.0 txn k.1 h.1;
    }
met-get o journal a told c brick txn (refusal.Stale leaf) g e f =
    let s = g.state in
    let k = took-get o journal a told c g.took.at brick s txn g.caller g.call g.key g.name g.stamp g.took.handles e f in
    let st = stale_against (leaf_for s.leaves g.key) g.name g.stamp in
    record {
      state = s;
      asked = get_asked s txn g.key g.name g.stamp;
      leaf = leaf;
      there = k.0;
      refused = g.true_then;
      met = get-stale (joins_key s.order g.key) st (is_locked s g.key) leaf g.true_then;
    }

met-update : (o : OpeningOf) (journal : List Step) (a : Asked) (told : Told) (c : Case o journal a told) (brick : NodeNo) (txn : Txn) (why : Refusal)
    → (g : UpdateWasDenied o c.front brick txn (denial.Refused why)) → a.caller ≡ g.caller → a.call.0 ≡ g.call.0 → MetBy o journal a told (met_of why brick)
met-update o journal a told c brick txn refusal.Lease g e f =
    let s = g.state in
    let key = the_key g.op in
    let k = took-update o journal a told c g.took.at brick s txn g.caller g.call g.below g.name g.stamp g.list g.op g.took.handles e f in
    let st = stale_against (leaf_for s.leaves key) g.name g.stamp in
    let r = was-refused (update_refusal s key g.name g.stamp) (has_no_room s g.op) refusal.Lease g.true_then in
    record {
      state = s;
      asked = update_asked s txn g.op g.name g.stamp;
      there = k.there;
      refused = r;
      met = elim (update-lease (joins_key s.order key) st (lease_covers s.locks.leases key) (is_locked s key)
          (λ x is. stale-no-lease (leaf_for s.leaves key) g.name g.stamp x is) r) [
            | inl j ↦ inl j
            | inr l ↦ inr (refl, l)
          ];
    }
met-update o journal a told c brick txn refusal.Lock g e f =
    let s = g.state in
    let key = the_key g.op in
    let k = took-update o journal a told c g.took.at brick s txn g.caller g.call g.below g.name g.stamp g.list g.op g.took.handles e f in
    let st = stale_against (leaf_for s.leaves key) g.name g.stamp in
    let r = was-refused (update_refusal s key g.name g.stamp) (has_no_room s g.op) refusal.Lock g.true_then in
    let h = held (holder s.locks.pending key) (update-lock (joins_key s.order key) st (lease_covers s.locks.leases key) (is_locked s key)
    (λ x is. stale-no-lock (leaf_for s.leaves key) g.name g.stamp x is) r) in
    record {
      state = s;
      asked = update_asked s txn g.op g.name g.stamp;
      other = h.0;
      there = k.there;
      refused = r;
      holds = h.1;
      differs = other-holder s.locks.pending key h.0 txn k.unlocked h.1;
    }
met-update o journal a told c brick txn (refusal.Stale leaf) g e f =
    let s = g.state in
    let key = the_key g.op in
    let k = took-update o journal a told c g.took.at brick s txn g.caller g.call g.below g.name g.stamp g.list g.op g.took.handles e f in
    let st = stale_against (leaf_for s.leaves key) g.name g.stamp in
    let r = was-refused (update_refusal s key g.name g.stamp) (has_no_room s g.op) (refusal.Stale leaf) g.true_then in
    record {
      state = s;
      asked = update_asked s txn g.op g.name g.stamp;
      leaf = leaf;
      there = k.there;
      refused = r;
      met = update-stale (joins_key s.order key) st (lease_covers s.locks.leases key) (is_locked s key) leaf r;
    }

abbrev pub the_no : CallNo → ℕ
the_no c = c.0

pub met-cause : (o : OpeningOf) (journal : List Step) (a : Asked) (told : Told) (c : Case o journal a told) (caller : ℕ) (call : CallNo) (m : Met)
    → CallWasRefused o c.front caller call m → a.caller ≡ caller → a.call.0 ≡ call.0 → MetBy o journal a told m
met-cause o journal a told c caller call m (inl g) e f =
    subst (MetBy o journal a told) g.met
    (met-get o journal a told c g.brick g.txn g.why g.was (e ∙ sym g.caller_is) (f ∙ sym (ap the_no g.call_is)))
met-cause o journal a told c caller call m (inr g) e f =
    subst (MetBy o journal a told) g.met
    (met-update o journal a told c g.brick g.txn g.why g.was (e ∙ sym g.caller_is) (f ∙ sym (ap the_no g.call_is)))

pub full-cause : (o : OpeningOf) (journal : List Step) (a : Asked) (told : Told) (c : Case o journal a told) (brick : NodeNo) (txn : Txn)
    → (g : UpdateWasDenied o c.front brick txn denial.Full) → a.caller ≡ g.caller → a.call.0 ≡ g.call.0 → FullBy o journal a told brick
full-cause o journal a told c brick txn g e f =
    let s = g.state in
    let k = took-update o journal a told c g.took.at brick s txn g.caller g.call g.below g.name g.stamp g.list g.op g.took.handles e f in
    record {
      state = s;
      asked = update_asked s txn g.op g.name g.stamp;
      there = k.there;
      update = refl;
      full = record {
        state = s;
        there = k.there.handles.state;
        full = ap (has_no_room s) k.op_is ∙ was-full (update_refusal s (the_key g.op) g.name g.stamp) (has_no_room s g.op) g.true_then;
      };
    }
