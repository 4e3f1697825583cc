use Rattle.std.proofs.Common.{◌≡◌, ℕ, ◌==◌, ◌++◌, inl, inr, Bool, true, false, Option, Some, None, List, [], ◌∷◌, refl, sym, ap, ◌∙◌, subst}
use Rattle.std.proofs.Common.{append_assoc}
use Rattle.std.proofs.lemmas.Bool.{both_ways}
use Rattle.std.proofs.lemmas.List.{append-nil}
use Rattle.std.specs.List.{AllByRecursion}
use Rattle.dds_base.specs.Name.{Name, covers}
use Rattle.dds_base.specs.Op.{the_key}
use Rattle.dds_base.specs.Place.{last_key}
use Rattle.dds_base.specs.declared.pair.Pair.{Pair}
use Rattle.dds_brick_rows.specs.Refusal.{is_join}
use Rattle.dds_cluster.specs.declared.trace.Made.{Made}
use Rattle.dds_core.proofs.Lists.{all-map}
use Rattle.dds_history.specs.Map.{Map}
use Rattle.dds_net.proofs.Letters.{AllSent}
use Rattle.dds_net.specs.Net.{Net, a_brick}
use Rattle.dds_order_rows.specs.Orders.{pairs_after}
use Rattle.dds_pairs.proofs.Bindings.{same-key}
use Rattle.dds_share.proofs.Parts.{FromBrick, part-brick}
use Rattle.dds_share.proofs.Together.{IsBound, comes, copied, has_part, installs}
use Rattle.dds_states.specs.declared.brick_state.BrickState.{BrickState}
use Rattle.dds_states.specs.declared.brick_state.OpenOrder.{OpenOrder}
use Rattle.dds_states.specs.declared.brick_state.OrderPhase.{OrderPhase}
use Rattle.dds_states.specs.declared.brick_state.OrderPhase.TheVariants.{Copying, Installing, Leasing}
use Rattle.dds_values.proofs.Befores.{bound-other, bound-read}
use Rattle.dds_values.specs.Values.{bound_in, table}
use Rattle.dds_world.specs.Values.{AreCopied}
use Rattle.dds_copies.proofs.Missing.{none-tell}
use Rattle.dds_copies.proofs.Points.{still-copied, still-told}
use Rattle.dds_copies.proofs.Tables.{same-under}
use Rattle.dds_copies.specs.Copies.{CopiesTable, JoinsCopy, TellsNext}
use Rattle.dds_copies.specs.Outside.{ComeOutside, IsOutside}

-- Points that leave the table under the name of each bound join as it is keep what joins have copied: of a join that isn't bound nothing is
-- said of the table.

differ : (a b : ℕ) (name : Name) (c : Bool) → (a == b) ≡ c → covers name a ≡ false → covers name b ≡ true → c ≡ false
differ a b name true e out over = absurd (both_ways (covers name b) (subst (λ k. covers name k ≡ false) (same-key a b e) out) over)
differ a b name false e out over = refl

one-outside : (made : List Made) (m : Made) (name : Name) (key : ℕ) → covers name key ≡ true → IsOutside name m
    → bound_in (made ++ m ∷ []) key ≡ bound_in made key
one-outside made m name key over (inl read) = bound-read made m key read
one-outside made m name key over (inr out) = bound-other made m key (differ (the_key m.entry.op) key name (the_key m.entry.op == key) refl out over)

pub all-outside : (made ms : List Made) (name : Name) (key : ℕ) → covers name key ≡ true → AllByRecursion (IsOutside name) ms
    → bound_in (made ++ ms) key ≡ bound_in made key
all-outside made [] name key over h = ap (λ l. bound_in l key) (append-nil made)
all-outside made (m ∷ ms) name key over h =
    ap (λ l. bound_in l key) (sym (append_assoc made (m ∷ []) ms)) ∙ all-outside (made ++ m ∷ []) ms name key over h.1 ∙ one-outside made m name key over h.0

copies-on : (made more : List Made) (n : Net) (k : ℕ) (o : OpenOrder) → AllByRecursion (IsOutside o.name) more → CopiesTable (table made) n k o
    → CopiesTable (table (made ++ more)) n k o
copies-on made more n k o out h =
    let m = table made in
    let u = table (made ++ more) in
    let same = (λ (from : Option ℕ). same-under u m o.name from (λ key over. all-outside made more o.name key over out)) in
    record {
      copied = still-copied m u o o.phase same h.copied;
      parts = λ source e. all-map (TellsNext m o) (TellsNext u o) (n.channel source k) (λ l t. still-told m u o l same t) (h.parts source e);
    }

-- a join that copied nothing and that no part comes to
nothing-copied : (m : Map) (o : OpenOrder) → o.copied ≡ [] → o.copied ++ pairs_after m o.name (last_key None o.copied) ≡ pairs_after m o.name None
nothing-copied m o e = ap (λ l. l ++ pairs_after m o.name (last_key None l)) e

source-is : {a b : ℕ} → Copying a ≡ Copying b → a ≡ b
source-is e = cc

fresh : (m : Map) (n : Net) (k : ℕ) (o : OpenOrder) (source : ℕ) → o.phase ≡ Copying source → o.copied ≡ [] → has_part o.number (n.channel source k) ≡ false
    → CopiesTable m n k o
fresh m n k o source phase none no_part =
    record {
      copied = subst (AreCopied m o) (sym phase) (nothing-copied m o none);
      parts = λ other e. subst (λ i. AllByRecursion (TellsNext m o) (n.channel i k)) (source-is (sym phase ∙ e)) (none-tell m o (n.channel source k) no_part);
    }

pub leasing : (m : Map) (n : Net) (k : ℕ) (o : OpenOrder) → o.phase ≡ Leasing → CopiesTable m n k o
leasing m n k o phase =
    record {
      copied = subst (AreCopied m o) (sym phase) tt;
      parts = λ source e. let no : Leasing ≡ Copying source = sym phase ∙ e in cc;
    }

module _ (made more : List Made) (n : Net) (bricks : AllSent FromBrick n) (out : ComeOutside n more) (h : JoinsCopy (table made) n) (k : ℕ) (s : BrickState)
    (o : OpenOrder) (here : n.node k ≡ a_brick s) (live : s.stopped ≡ false) (there : s.order ≡ Some o) (join : is_join o.task ≡ true) where
  abbrev After : Type 0
  After = CopiesTable (table (made ++ more)) n k o

  bound : IsBound n k o o.phase → After
  bound b =
      copies-on made more n k o (out.outside k s o (record { here = here; live = live; there = there; join = join; bound = b })) (h k s o here live there join)

  with-parts : (source : ℕ) (c : Bool) → has_part o.number (n.channel source k) ≡ c → o.phase ≡ Copying source → o.copied ≡ [] → After
  with-parts source true e phase none =
      let w = part-brick n o.number source k bricks e in
      bound (subst (IsBound n k o) (sym phase) (comes source w.0 w.1 e))
  with-parts source false e phase none = fresh (table (made ++ more)) n k o source phase none e

  with-copied : (source : ℕ) (c : List Pair) → o.copied ≡ c → o.phase ≡ Copying source → After
  with-copied source [] e phase = with-parts source (has_part o.number (n.channel source k)) refl phase e
  with-copied source (p ∷ ps) e phase =
      bound (subst (IsBound n k o) (sym phase) (copied source (λ f. let no : p ∷ ps ≡ [] = sym e ∙ f in cc)))

  in-phase : (p : OrderPhase) → o.phase ≡ p → After
  in-phase Leasing e = leasing (table (made ++ more)) n k o e
  in-phase (Copying source) e = with-copied source o.copied refl e
  in-phase (Installing leaf) e = bound (subst (IsBound n k o) (sym e) (installs leaf))

pub points-keep : (made more : List Made) (n : Net) → AllSent FromBrick n → ComeOutside n more → JoinsCopy (table made) n → JoinsCopy (table (made ++ more)) n
points-keep made more n bricks out h k s o here live there join =
    in-phase made more n bricks out h k s o here live there join o.phase refl
