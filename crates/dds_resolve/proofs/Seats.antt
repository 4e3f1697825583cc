use Rattle.std.proofs.Common.{◌≡◌, ℕ, ◌==◌, Bool, true, false, List, [], ◌∷◌, ◌++◌}
use Rattle.std.proofs.Common.{refl, sym, ap, subst}
use Rattle.std.proofs.lemmas.List.{append-nil}
use Rattle.dds_base.specs.BrickList.{has}
use Rattle.dds_base.specs.NodeSet.{has_node}
use Rattle.dds_base.specs.Number.{Txn}
use Rattle.dds_brick_rows.specs.Resolution.{is_ready}
use Rattle.dds_net.specs.Net.{Net, Node, nowhere, a_brick, a_library}
use Rattle.dds_states.specs.declared.brick_state.BrickState.{BrickState}
use Rattle.dds_talk.specs.Resolve.{Agreed, Resolves, Tell}
use Rattle.dds_talk.specs.Seen.{about}
use Rattle.dds_talk.specs.Table.{At}
use Rattle.dds_talk.specs.Table.At.{Unprepared}
use Rattle.dds_resolve.specs.Resolved.{Alive, Lost, Pair, Resolve}
use Rattle.dds_resolve.specs.Resolving.{own_at, side, status_in, tell_in}

-- The other members of an attempt, as its resolver sees them before a turn: the round that the turn is about.

pub data Seated (w : Net) (d : Bool) (t : Txn) (list : List ℕ) (n m : ℕ) (s : BrickState) : Type 0 where
  absent : Seated w d t list n m s
  living : (y : BrickState) → w.node m ≡ a_brick y → y.stopped ≡ false → Agreed d (own_at y t) → Alive w d t list n m s y → Seated w d t list n m s
  lost : (y : BrickState) → w.node m ≡ a_brick y → y.stopped ≡ true → Lost w d t n m s → Seated w d t list n m s

pub record Seat : Type 0 where
  pub to : List Tell
  pub put_off : Bool
  pub ready : Bool
  pub at : At
  pub back : List At

abbrev pub is_seated : {w : Net} {d : Bool} {t : Txn} {list : List ℕ} {n m : ℕ} {s : BrickState} → Seated w d t list n m s → Bool
is_seated absent = false
is_seated (living y e l a c) = true
is_seated (lost y e l c) = true

-- with the statuses that are on their way back
abbrev pub seat_of : {w : Net} {d : Bool} {t : Txn} {list : List ℕ} {n m : ℕ} {s : BrickState} → List At → Seated w d t list n m s → Seat
seat_of b absent = record { to = []; put_off = false; ready = false; at = Unprepared; back = b }
seat_of {w = w} {t = t} {list = list} {n = n} {m = m} b (living y e l a c) =
    record { to = about tell_in t (w.channel n m); put_off = c.put; ready = is_ready y.known t list n; at = own_at y t; back = b }
seat_of b (lost y e l c) = record { to = c.out; put_off = c.put; ready = c.ready; at = c.at; back = b ++ c.cut }

pub seat-now : {w : Net} {d : Bool} {t : Txn} {list : List ℕ} {n m : ℕ} {s : BrickState} (b : List At) (q : Seated w d t list n m s) → is_seated q ≡ true
    → Resolves d (side s t m) ((seat_of b q).to ++ []) (seat_of b q).put_off (seat_of b q).ready (seat_of b q).at
    (seat_of (about status_in t (w.channel m n)) q).back
seat-now b absent e = cc
seat-now b (living y i l a c) e = c.now
seat-now {w = w} {d = d} {t = t} {n = n} {m = m} {s = s} b (lost y i l c) e =
    subst (λ o. Resolves d (side s t m) o c.put c.ready c.at (about status_in t (w.channel m n) ++ c.cut)) (sym (append-nil c.out)) c.now

pub seat-agreed : {w : Net} {d : Bool} {t : Txn} {list : List ℕ} {n m : ℕ} {s : BrickState} (b : List At) (q : Seated w d t list n m s) → is_seated q ≡ true →
    Agreed d (seat_of b q).at
seat-agreed b absent e = cc
seat-agreed b (living y i l a c) e = a
seat-agreed b (lost y i l c) e = c.agreed

-- one status less, or none
pub seat-heard : {w : Net} {d : Bool} {t : Txn} {list : List ℕ} {n m : ℕ} {s : BrickState} (a b : List At) (x : At) (q : Seated w d t list n m s) →
    a ≡ x ∷ b → (seat_of a q).back ≡ x ∷ (seat_of b q).back
seat-heard a b x absent e = e
seat-heard a b x (living y i l k c) e = e
seat-heard a b x (lost y i l c) e = ap (λ z. z ++ c.cut) e

pub seat-same : {w : Net} {d : Bool} {t : Txn} {list : List ℕ} {n m : ℕ} {s : BrickState} (a b : List At) (q : Seated w d t list n m s) → a ≡ b →
    (seat_of a q).back ≡ (seat_of b q).back
seat-same a b absent e = e
seat-same a b (living y i l k c) e = e
seat-same a b (lost y i l c) e = ap (λ z. z ++ c.cut) e

-- who sits where
module _ (w : Net) (list : Txn → List ℕ) (decided : Txn → Bool) (t : Txn) (n : ℕ) (s : BrickState) (here : w.node n ≡ a_brick s) (live : s.stopped ≡ false)
    (resolve : Resolve w list decided)
    (agree : (m : ℕ) (y : BrickState) → w.node m ≡ a_brick y → y.stopped ≡ false → has (list t) m ≡ true → Agreed (decided t) (own_at y t)) where
  pair : (m : ℕ) (y : BrickState) → has (list t) m ≡ true → (n == m) ≡ false → has_node s.known m ≡ false → w.node m ≡ a_brick y → Pair w list t n m s y
  pair m y a b c e = record { resolver = here; lives = live; member = e; apart = b; in_list = a; unknown = c }

  brick-seat : (m : ℕ) (y : BrickState) (k : Bool) → y.stopped ≡ k → has (list t) m ≡ true → (n == m) ≡ false → has_node s.known m ≡ false →
      w.node m ≡ a_brick y → Seated w (decided t) t (list t) n m s
  brick-seat m y true i a b c e = lost y e i (resolve.lost t n m s y (pair m y a b c e) i)
  brick-seat m y false i a b c e = living y e i (agree m y e i a) (resolve.alive t n m s y (pair m y a b c e) i)

  node-seat : (m : ℕ) (x : Node) → w.node m ≡ x → has (list t) m ≡ true → (n == m) ≡ false → has_node s.known m ≡ false → Seated w (decided t) t (list t) n m s
  node-seat m nowhere e a b c = absent
  node-seat m (a_brick y) e a b c = brick-seat m y y.stopped refl a b c e
  node-seat m (a_library y) e a b c = absent

  choose : (m : ℕ) (x y z : Bool) → has (list t) m ≡ x → (n == m) ≡ y → has_node s.known m ≡ z → Seated w (decided t) t (list t) n m s
  choose m true false false a b c = node-seat m (w.node m) refl a b c
  choose m false y z a b c = absent
  choose m true true z a b c = absent
  choose m true false true a b c = absent

  pub seats : (m : ℕ) → Seated w (decided t) t (list t) n m s
  seats m = choose m (has (list t) m) (n == m) (has_node s.known m) refl refl refl

  seated-brick : (m : ℕ) (y : BrickState) (k : Bool) (i : y.stopped ≡ k) (a : has (list t) m ≡ true) (b : (n == m) ≡ false) (c : has_node s.known m ≡ false)
      (e : w.node m ≡ a_brick y) → is_seated (brick-seat m y k i a b c e) ≡ true
  unfolding brick-seat
  seated-brick m y true i a b c e = refl
  seated-brick m y false i a b c e = refl

  seated-node : (m : ℕ) (x : Node) (e : w.node m ≡ x) (a : has (list t) m ≡ true) (b : (n == m) ≡ false) (c : has_node s.known m ≡ false) (y : BrickState) →
      x ≡ a_brick y → is_seated (node-seat m x e a b c) ≡ true
  unfolding node-seat
  seated-node m nowhere e a b c y i = cc
  seated-node m (a_brick u) e a b c y i = seated-brick m u u.stopped refl a b c e
  seated-node m (a_library u) e a b c y i = cc

  seated-if : (m : ℕ) (x y z : Bool) (a : has (list t) m ≡ x) (b : (n == m) ≡ y) (c : has_node s.known m ≡ z) (u : BrickState) → x ≡ true → y ≡ false →
      z ≡ false → w.node m ≡ a_brick u → is_seated (choose m x y z a b c) ≡ true
  unfolding choose
  seated-if m true false false a b c u i j k e = seated-node m (w.node m) refl a b c u e
  seated-if m false y z a b c u i j k e = cc
  seated-if m true true z a b c u i j k e = cc
  seated-if m true false true a b c u i j k e = cc

  -- each brick that the resolver doesn't know sits there
  pub seats-there : (m : ℕ) (u : BrickState) → Pair w list t n m s u → is_seated (seats m) ≡ true
  unfolding seats
  seats-there m u p = seated-if m (has (list t) m) (n == m) (has_node s.known m) refl refl refl u p.in_list p.apart p.unknown p.member
