-- Turns of a load whose pages are read straight to their places.
use Rattle.std.proofs.Common.{ℕ, ◌≡◌, ◌+◌, ◌||◌, ◌++◌, Bool, true, false, List, [], ◌∷◌, length, map, get_or, refl, sym, ap, subst, ◌∙◌, inl, arith, Result, Ok}
use Rattle.std.proofs.Common.{Err}
use Rattle.std.specs.Prelude.{IfOk}
use Rattle.std.specs.List.{range_with_len}
use Rattle.mig_mem.specs.declared.place.Place.{Place}
use Rattle.mig_mem.specs.RamTable.{RamTable}
use Rattle.mig_mem.specs.Place.{IsPlace, has_place}
use Rattle.mig_mem.specs.PlaceSet.{PlaceSet}
use Rattle.mig_mem.specs.Image.{Image, IsImage}
use Rattle.mig_mem.specs.Round.{with_round}
use Rattle.mig_packet.specs.Packet.{normal_count, zero_count, offset_at, fields_of}
use Rattle.mig_assemble.specs.HeadPlaces.{LieIn}
use Rattle.mig_assemble.specs.Judging.{page_in}
use Rattle.mig_assemble.specs.PacketPages.{LiesIn, zero_pages}
use Rattle.mig_load_types.specs.declared.settings.LoadSettings.{LoadSettings}
use Rattle.mig_answer.specs.declared.verdict.Verdict.{Verdict}
use Rattle.mig_answer.specs.Texts.{Texts}
use Rattle.mig_sources.specs.declared.source.Source.{Source}
use Rattle.mig_sources.specs.declared.source.Source.TheVariants as source
use Rattle.mig_sources.specs.Sources.{feed_step, end_step}
use Rattle.mig_in_place.specs.Session.{InPlaceLoad, StandsFor, StepsOn}
use Rattle.mig_in_place.specs.TakenPackets.{packet_bytes, pages_taken}
use Rattle.mig_in_place.proofs.Heads.{lies}
use Rattle.mig_in_place.proofs.Lying.{block_is}
use Rattle.mig_in_place.specs.Answer.{HoldsElsewhere, IsInPlaceAnswer}
use Rattle.mig_apart.specs.Claims.{ApartLoad, IsClaimed, IsNewClaim, StandsFreely, TakesFreely, packet_places}
use Rattle.mig_apart.proofs.Free.{free_law, strict_law, to_free_law}
use Rattle.mig_uses.specs.Straight.{page_place, WritesWithin, HasZeros, contents_in, HasClaimed, GoesOn, IsAnswered}
use Rattle.mig_uses.proofs.StraightPages.{packet_there, has_ranged}

-- a load and a memory as they were go on: they represent some streams if they did
pub goes_on : (m : Image) (s : ApartLoad) → GoesOn m s m s
goes_on m s = λ given uuid first texts free. (texts, free)

-- if a load goes on in one turn and then in another, it goes on in both
pub goes_both : (a b c : Image) (s t u : ApartLoad) → GoesOn a s b t → GoesOn b t c u → GoesOn a s c u
goes_both a b c s t u one two = λ given uuid first texts free. two given uuid first (one given uuid first texts free).0 (one given uuid first texts free).1

-- ---- a packet

-- its places are claimed
pub goes_claimed : (m : Image) (old new : ApartLoad) (places : List Place) → new.load ≡ old.load
    → IsNewClaim old.load.table places old.claimed new.claimed → GoesOn m old m new
goes_claimed m old new places load claim = λ given uuid first texts free. (
  texts,
  record {
    judged = free.judged;
    same_table = free.same_table ∙ ap (λ (l : InPlaceLoad). l.table) (sym load);
    has_contents = free.has_contents;
    stands = subst (λ (l : InPlaceLoad). StandsFor given uuid first texts free.judged l) (sym load) free.stands;
    agrees = record {
      same_table = free.agrees.same_table;
      elsewhere = λ p is closed. free.agrees.elsewhere p is (λ was.
          closed (claim.claims p (subst (λ (t : RamTable). IsPlace t p) free.same_table is)
          ∙ ap (λ (x : Bool). has_place places p || x) was ∙ or_true (has_place places p)));
    };
  },
)
  where
    or_true : (x : Bool) → (x || true) ≡ true
    or_true true = refl
    or_true false = refl

-- its pages are pages of the memory's table
pub lies_here : (table other : RamTable) (b : ℕ) (head bytes : List ℕ) → other ≡ table → head ≡ bytes → LieIn table b bytes → LiesIn other b head
lies_here table other b head bytes same is lie =
    subst (λ (t : RamTable). LiesIn t b head) (sym same) (subst (λ (h : List ℕ). LiesIn table b h) (sym is) (lies table b bytes lie))

-- all of them are
pub claimed_now : (b : ℕ) (head : List ℕ) (old new : ApartLoad) → new.load ≡ old.load → LieIn old.load.table b head
    → IsNewClaim old.load.table (packet_places old.load.table b head) old.claimed new.claimed → HasClaimed b head new
claimed_now b head old new load lie claim = λ i lt.
    let table : RamTable = old.load.table in
    subst (λ (l : InPlaceLoad). has_place new.claimed.marked (page_place l.table b head i) ≡ true) (sym load)
    (claim.claims (page_place table b head i) (lies table b head lie i lt)
    ∙ ap (λ (x : Bool). x || has_place old.claimed.marked (page_place table b head i))
    (has_ranged (page_place table b head) (normal_count head + zero_count head) 0 i (omega arith) (omega (arith, lt))))

-- they are written
pub goes_within : (b : ℕ) (head : List ℕ) (before after : Image) (s : ApartLoad) → before.table ≡ s.load.table
    → HasClaimed b head s → WritesWithin b head before after → GoesOn before s after s
goes_within b head before after s same claimed writes = λ given uuid first texts free. (
  texts,
  free_law given uuid first texts before after s free (record {
    same_table = writes.same_table;
    elsewhere = λ p is closed. writes.elsewhere p is (λ i lt at.
        closed (subst (λ (q : Place). IsClaimed s q) (ap (λ (t : RamTable). page_place t b head i) (sym same) ∙ at) (claimed i lt)));
  }),
)

-- it is taken with the contents that the memory has
pub goes_taken : (channel b : ℕ) (head : List ℕ) (contents : List (List ℕ)) (m : Image) (old new : ApartLoad) → IsImage m → LieIn m.table b head
    → contents ≡ contents_in m b head (normal_count head) → HasZeros b head (zero_count head) m → TakesFreely channel head contents old new → GoesOn m old m new
goes_taken channel b head contents m old new is lie same zeros takes = λ given uuid first texts free.
    let stays : with_round m (pages_taken m.table head contents) ≡ m =
    subst (λ (k : ℕ). with_round m (zero_pages m.table k (fields_of m.table.page_size head) ++ map
    (λ i. page_in m.table k (offset_at head i) (get_or contents i [])) (range_with_len 0 (length contents))) ≡ m)
    (sym (block_is m.table b head lie)) (packet_there m b head contents is same zeros) in (
      feed_step (source.Channel channel) (packet_bytes head contents) texts,
      subst (λ (x : Image). StandsFreely given uuid first
          (feed_step (source.Channel channel) (packet_bytes head contents) texts) x new) stays (takes given uuid first texts m free),
    )

-- ---- other bytes

-- a set that has marked 0 places has marked none
pub none_marked : (s : PlaceSet) → length s.marked ≡ 0 → s.marked ≡ []
none_marked s none = empty s.marked none
  where
    empty : (l : List Place) → length l ≡ 0 → l ≡ []
    empty [] e = refl
    empty (x ∷ xs) e = absurd (omega (arith, e))

-- a load without claimed places that takes the bytes of a source goes on with its new memory
pub goes_fed : (from : Source) (bytes : List ℕ) (before after : Image) (old new : ApartLoad) → IsImage before → IsImage after
    → old.claimed.marked ≡ [] → after.table ≡ new.load.table
    → StepsOn (feed_step from bytes) before old.load after new.load → GoesOn before old after new
goes_fed from bytes before after old new is_before is_after none same steps = λ given uuid first texts free. (
  feed_step from bytes texts,
  to_free_law given uuid first (feed_step from bytes texts) after new is_after same
      (steps given uuid first texts (strict_law given uuid first texts before old is_before none free)),
)

-- a load that takes the end of a source, with its table and claims as they were, goes on
pub goes_ended : (from : Source) (m : Image) (old new : ApartLoad) → new.load.table ≡ old.load.table → new.claimed ≡ old.claimed
    → ((memory : Image) → StepsOn (end_step from) memory old.load memory new.load) → GoesOn m old m new
goes_ended from m old new table claimed steps = λ given uuid first texts free. (
  end_step from texts,
  record {
    judged = free.judged;
    same_table = free.same_table ∙ sym table;
    has_contents = free.has_contents;
    stands = steps free.judged given uuid first texts free.stands;
    agrees = subst (λ (c : PlaceSet). HoldsElsewhere free.judged (λ p. has_place c.marked p ≡ true) m) (sym claimed) free.agrees;
  },
)

-- ---- the verdict

-- if a verdict is the answer on whatever streams a load stands for, and it stands for some, it is
-- the answer of the load
pub answered_so : (given : LoadSettings) (uuid : List ℕ) (first last : Image) (s : ApartLoad) (verdict : Verdict)
    → ((given : LoadSettings) (uuid : List ℕ) (first : Image) (texts : Texts) → StandsFreely given uuid first texts last s
    → IsInPlaceAnswer given uuid first texts last s.load.rounds verdict)
    → (texts : Texts) × StandsFreely given uuid first texts last s → IsAnswered given uuid first last verdict
answered_so given uuid first last s verdict answers free = inl (free.0, s.load.rounds, answers given uuid first free.0 free.1)

-- if `P` gives `Q` of each value, an Ok result that has `P` has `Q`
pub if_ok : {T E : Type 0} (r : Result T E) (P Q : T → Type 0) → ((x : T) → P x → Q x) → IfOk r P → IfOk r Q
if_ok {T} {E} (Ok x) P Q each is = each x is
if_ok {T} {E} (Err e) P Q each is = tt
