use Rattle.std.proofs.Common.{rules, ℕ, ◌≡◌, ◌+◌, ◌∙◌, List, length, map, refl, subst, sym, arith, ap}
use Rattle.std.specs.Prelude.{Vec, vec_len}
use Rattle.std.proofs.lemmas.List.{length-map}
use Rattle.mig_mem.specs.RamTable.{RamTable}
use Rattle.mig_mem.specs.PlaceSet.{IsPlaceSet}
use Rattle.mig_stream.specs.Writer.{Writer}
use Rattle.mig_send.specs.Batches.{BatchOfPages, IsCut}
use Rattle.mig_send.specs.DealtRounds.{DealtRound, IsDealtRound, packet_count}
use Rattle.mig_send.specs.MultiSending.{MultiSending, IsMultiSending, HasSentOne, KeepsSetting, texts_of}
use Rattle.mig_send.proofs.Counting.{few_batches}
use Rattle.mig_send.proofs.Channels.{prefix_long, cut_same}
use Rattle.mig_send.proofs.Sendings.{sent_more, texts_long, unchanged}
use Rattle.mig_send.proofs.multi.MultiSender.round.Goals as goal

pub deal_round-requires-clause-limits : goal.deal_round-requires-clause-limits
deal_round-requires-clause-limits g c κs within =
    let few = few_batches c.args.dirty.now c.self.inside.limit c.in_ok-batches.batches.items c.table-else-not-same.ensures.set c.in_ok-batches.ensures.cut in
    let many = c.self.invariant.is_set.has_channels in
    let channels = c.self.inside.channels in
    let long = length-map channels.items (λ (text : Vec ℕ _). text.items) in (
      omega (arith, c.if-self-gt-LAST_BASE.false),
      omega (arith, few, ap length c.deref-2.ensures.value),
      omega (arith, many.0, long, channels.ok.0),
      omega (arith, many.1, long, channels.ok.0),
    )

pub cut_back-requires : goal.cut_back-requires
cut_back-requires g c =
    let olds = c.self.inside.channels in
    let news = c.deal_round.new.channels in
    omega (
      arith,
      ap length (c.deref-in_default.ensures.value ∙ c.in_ok-lens.ensures
          ∙ ap (λ (l : List (Vec ℕ _)). map (λ (text : Vec ℕ _). vec_len text) l) c.deref.ensures.value),
      length-map olds.items (λ (text : Vec ℕ _). vec_len text),
      prefix_long olds.items news.items c.in_default.ensures.prefix,
      news.ok.0,
    )

pub invariant_of-self : goal.invariant_of-self
invariant_of-self g c =
    let olds = c.self.inside.channels in
    let news = c.deal_round.new.channels in
    let lens = c.deref-in_default.ensures.value ∙ c.in_ok-lens.ensures
    ∙ ap (λ (l : List (Vec ℕ _)). map (λ (text : Vec ℕ _). vec_len text) l) c.deref.ensures.value in
    let same : texts_of c.cut_back.new.channels.items ≡ texts_of olds.items =
    cut_same olds.items (texts_of news.items) c.deref-in_default.result.now
    (texts_of c.cut_back.new.channels.items) c.in_default.ensures.prefix lens c.cut_back.ensures in
    subst (λ (l : List (List ℕ)). IsMultiSending
    (record {
      main = c.self.inside.main;
      uuid = c.self.inside.uuid;
      limit = c.self.inside.limit;
      channels = l;
      base = c.self.inside.base;
      rounds = c.self.inside.rounds;
    })) (sym same) c.self.invariant

pub returns-in_default-clause-err : goal.returns-in_default-clause-err
returns-in_default-clause-err g c =
    let olds = c.self.inside.channels in
    let news = c.deal_round.new.channels in
    let lens = c.deref-in_default.ensures.value ∙ c.in_ok-lens.ensures
    ∙ ap (λ (l : List (Vec ℕ _)). map (λ (text : Vec ℕ _). vec_len text) l) c.deref.ensures.value in
    let same : texts_of c.cut_back.new.channels.items ≡ texts_of olds.items =
    cut_same olds.items (texts_of news.items) c.deref-in_default.result.now
    (texts_of c.cut_back.new.channels.items) c.in_default.ensures.prefix lens c.cut_back.ensures in
    ap (λ (l : List (List ℕ)). record {
      main = c.self.inside.main;
      uuid = c.self.inside.uuid;
      limit = c.self.inside.limit;
      channels = l;
      base = c.self.inside.base;
      rounds = c.self.inside.rounds;
    }) same ∙ c.self.view_is

pub returns-in_default-clause-setting : goal.returns-in_default-clause-setting
returns-in_default-clause-setting g c =
    let olds = c.self.inside.channels in
    let news = c.deal_round.new.channels in
    let lens = c.deref-in_default.ensures.value ∙ c.in_ok-lens.ensures
    ∙ ap (λ (l : List (Vec ℕ _)). map (λ (text : Vec ℕ _). vec_len text) l) c.deref.ensures.value in
    let same : texts_of c.cut_back.new.channels.items ≡ texts_of olds.items =
    cut_same olds.items (texts_of news.items) c.deref-in_default.result.now
    (texts_of c.cut_back.new.channels.items) c.in_default.ensures.prefix lens c.cut_back.ensures in
    unchanged c.args.self.now _ (ap (λ (l : List (List ℕ)). record {
      main = c.self.inside.main;
      uuid = c.self.inside.uuid;
      limit = c.self.inside.limit;
      channels = l;
      base = c.self.inside.base;
      rounds = c.self.inside.rounds;
    }) same ∙ c.self.view_is)

pub cut_back-requires-in_default-flush_part : goal.cut_back-requires-in_default-flush_part
cut_back-requires-in_default-flush_part g c =
    let olds = c.self.inside.channels in
    let news = c.deal_round.new.channels in
    omega (
      arith,
      ap length (c.deref-in_default-flush_part.ensures.value ∙ c.in_ok-lens.ensures
          ∙ ap (λ (l : List (Vec ℕ _)). map (λ (text : Vec ℕ _). vec_len text) l) c.deref.ensures.value),
      length-map olds.items (λ (text : Vec ℕ _). vec_len text),
      prefix_long olds.items news.items c.in-Ok.ensures.prefix,
      news.ok.0,
    )

pub invariant_of-self-in_default-flush_part : goal.invariant_of-self-in_default-flush_part
invariant_of-self-in_default-flush_part g c =
    let olds = c.self.inside.channels in
    let news = c.deal_round.new.channels in
    let lens = c.deref-in_default-flush_part.ensures.value ∙ c.in_ok-lens.ensures
    ∙ ap (λ (l : List (Vec ℕ _)). map (λ (text : Vec ℕ _). vec_len text) l) c.deref.ensures.value in
    let same : texts_of c.cut_back-in_default-flush_part.new.channels.items ≡ texts_of olds.items =
    cut_same olds.items (texts_of news.items) c.deref-in_default-flush_part.result.now
    (texts_of c.cut_back-in_default-flush_part.new.channels.items) c.in-Ok.ensures.prefix lens c.cut_back-in_default-flush_part.ensures in
    subst (λ (w : Writer). IsMultiSending (record {
      main = w;
      uuid = c.self.inside.uuid;
      limit = c.self.inside.limit;
      channels = texts_of c.cut_back-in_default-flush_part.new.channels.items;
      base = c.self.inside.base;
      rounds = c.self.inside.rounds;
    })) (sym c.in_default-flush_part.ensures.err)
    (subst (λ (l : List (List ℕ)). IsMultiSending
    (record {
      main = c.self.inside.main;
      uuid = c.self.inside.uuid;
      limit = c.self.inside.limit;
      channels = l;
      base = c.self.inside.base;
      rounds = c.self.inside.rounds;
    })) (sym same) c.self.invariant)

pub returns-in_default-flush_part-clause-err : goal.returns-in_default-flush_part-clause-err
returns-in_default-flush_part-clause-err g c =
    let olds = c.self.inside.channels in
    let news = c.deal_round.new.channels in
    let lens = c.deref-in_default-flush_part.ensures.value ∙ c.in_ok-lens.ensures
    ∙ ap (λ (l : List (Vec ℕ _)). map (λ (text : Vec ℕ _). vec_len text) l) c.deref.ensures.value in
    let same : texts_of c.cut_back-in_default-flush_part.new.channels.items ≡ texts_of olds.items =
    cut_same olds.items (texts_of news.items) c.deref-in_default-flush_part.result.now
    (texts_of c.cut_back-in_default-flush_part.new.channels.items) c.in-Ok.ensures.prefix lens c.cut_back-in_default-flush_part.ensures in
    ap (λ (w : Writer). record {
      main = w;
      uuid = c.self.inside.uuid;
      limit = c.self.inside.limit;
      channels = texts_of c.cut_back-in_default-flush_part.new.channels.items;
      base = c.self.inside.base;
      rounds = c.self.inside.rounds;
    }) c.in_default-flush_part.ensures.err
    ∙ (ap (λ (l : List (List ℕ)). record {
      main = c.self.inside.main;
      uuid = c.self.inside.uuid;
      limit = c.self.inside.limit;
      channels = l;
      base = c.self.inside.base;
      rounds = c.self.inside.rounds;
    }) same ∙ c.self.view_is)

pub returns-in_default-flush_part-clause-setting : goal.returns-in_default-flush_part-clause-setting
returns-in_default-flush_part-clause-setting g c =
    let olds = c.self.inside.channels in
    let news = c.deal_round.new.channels in
    let lens = c.deref-in_default-flush_part.ensures.value ∙ c.in_ok-lens.ensures
    ∙ ap (λ (l : List (Vec ℕ _)). map (λ (text : Vec ℕ _). vec_len text) l) c.deref.ensures.value in
    let same : texts_of c.cut_back-in_default-flush_part.new.channels.items ≡ texts_of olds.items =
    cut_same olds.items (texts_of news.items) c.deref-in_default-flush_part.result.now
    (texts_of c.cut_back-in_default-flush_part.new.channels.items) c.in-Ok.ensures.prefix lens c.cut_back-in_default-flush_part.ensures in
    unchanged c.args.self.now _ (ap (λ (w : Writer). record {
      main = w;
      uuid = c.self.inside.uuid;
      limit = c.self.inside.limit;
      channels = texts_of c.cut_back-in_default-flush_part.new.channels.items;
      base = c.self.inside.base;
      rounds = c.self.inside.rounds;
    }) c.in_default-flush_part.ensures.err
    ∙ (ap (λ (l : List (List ℕ)). record {
      main = c.self.inside.main;
      uuid = c.self.inside.uuid;
      limit = c.self.inside.limit;
      channels = l;
      base = c.self.inside.base;
      rounds = c.self.inside.rounds;
    }) same ∙ c.self.view_is))

pub overflow_add-self-2 : goal.overflow_add-self-2
overflow_add-self-2 g c =
    let few = few_batches c.args.dirty.now c.self.inside.limit c.in_ok-batches.batches.items c.table-else-not-same.ensures.set c.in_ok-batches.ensures.cut in
    let many = c.self.invariant.is_set.has_channels in
    let olds = c.self.inside.channels in
    let news = c.deal_round.new.channels in
    omega (
      arith,
      c.if-self-gt-LAST_BASE.false,
      few,
      c.in_ok-batches.batches.ok.0,
      c.len.ensures,
      many.1,
      length-map olds.items (λ (text : Vec ℕ _). text.items),
      prefix_long olds.items news.items c.in-Ok.ensures.prefix,
      news.ok.0,
      c.len-2.ensures,
    )

pub returns-clause-setting : goal.returns-clause-setting
returns-clause-setting g c =
    let olds = c.self.inside.channels in
    let news = c.deal_round.new.channels in
    let after : MultiSending = record {
      main = c.flush_part.new.self;
      uuid = c.self.inside.uuid;
      limit = c.self.inside.limit;
      channels = texts_of news.items;
      base = c.self.inside.base + (c.len.result + c.len-2.result);
      rounds = c.self.inside.rounds + 1;
    } in
    subst (λ (old : MultiSending). KeepsSetting old after) c.self.view_is record {
      same_table = c.in-Ok-flush_part.ensures.table;
      same_uuid = refl;
      same_limit = refl;
      as_many = texts_long news.items olds.items (prefix_long olds.items news.items c.in-Ok.ensures.prefix);
    }

pub invariant_of-self-2 : goal.invariant_of-self-2
invariant_of-self-2 g c =
    let set = c.self.invariant.is_set in
    let same = c.in-Ok-flush_part.ensures.table in
    let olds = c.self.inside.channels in
    let news = c.deal_round.new.channels in
    let many = prefix_long olds.items news.items c.in-Ok.ensures.prefix in
    let long : length (texts_of news.items) ≡ length (texts_of olds.items) = texts_long news.items olds.items many in
    record {
      is_set = record {
        has_table = rw (same) set.has_table;
        has_uuid = set.has_uuid;
        has_channels = rw long set.has_channels;
        has_limit = rw (same) set.has_limit;
      };
      has_rounds = let before = c.self.invariant.has_rounds in let some = set.has_channels in
          omega (arith, before, some.0, c.len-2.ensures, length-map olds.items (λ (text : Vec ℕ _). text.items), many, olds.ok.0, news.ok.0);
      has_base = omega (arith, c.if-self-gt-LAST_BASE.false, c.len.ensures, c.len-2.ensures);
    }

pub returns-clause-ok : goal.returns-clause-ok
returns-clause-ok g c =
    let image = g.M.GuestPages.image c.args.image.now in
    let olds = c.self.inside.channels in
    let news = c.deal_round.new.channels in
    let dealt = c.in-Ok.ensures.ok in
    let batches = c.deref-2.result.now in
    let of_image : image.table ≡ c.self.inside.main.table = (search rules) in
    let of_dirty : c.args.dirty.now.table ≡ c.self.inside.main.table = (search rules) in
    let round : DealtRound = record {
      snapshot = record { image = image; dirty = c.args.dirty.now.marked };
      batches = batches;
      base = c.self.inside.base;
      shares = dealt.shares;
    } in
    let before : MultiSending = record {
      main = c.self.inside.main;
      uuid = c.self.inside.uuid;
      limit = c.self.inside.limit;
      channels = texts_of olds.items;
      base = c.self.inside.base;
      rounds = c.self.inside.rounds;
    } in
    let after : MultiSending = record {
      main = c.flush_part.new.self;
      uuid = c.self.inside.uuid;
      limit = c.self.inside.limit;
      channels = texts_of news.items;
      base = c.self.inside.base + (c.len.result + c.len-2.result);
      rounds = c.self.inside.rounds + 1;
    } in
    let long = prefix_long olds.items news.items c.in-Ok.ensures.prefix in
    let keeps : KeepsSetting before after = record {
      same_table = c.in-Ok-flush_part.ensures.table;
      same_uuid = refl;
      same_limit = refl;
      as_many = texts_long news.items olds.items long;
    } in
    let is_dealt : IsDealtRound before.main.table before.limit (length before.channels) round = record {
      has_image = c.table.ensures.image;
      has_table = of_image;
      has_places = subst (λ (t : RamTable). IsPlaceSet (record { table = t; marked = c.args.dirty.now.marked })) of_dirty c.table-else-not-same.ensures.set;
      has_batches = subst (λ (l : List BatchOfPages). IsCut c.self.inside.limit c.args.dirty.now.marked l)
          (sym c.deref-2.ensures.value) c.in_ok-batches.ensures.cut;
      has_shares = dealt.is_dealing;
      as_many = dealt.as_many;
    } in
    let base : after.base ≡ before.base + packet_count round =
    omega (
      arith,
      c.len.ensures,
      c.len-2.ensures,
      dealt.as_many,
      length-map olds.items (λ (text : Vec ℕ _). text.items),
      long,
      news.ok.0,
      ap length c.deref-2.ensures.value,
    ) in
    subst (λ (old : MultiSending). HasSentOne round.snapshot old after) c.self.view_is record {
      round = round;
      is_of = refl;
      is_dealt = is_dealt;
      goes_on = refl;
      has_base = base;
      has_rounds = refl;
      has_sent = sent_more before after round keeps is_dealt refl base refl c.in-Ok-flush_part.ensures.ok dealt.have_texts;
    }
