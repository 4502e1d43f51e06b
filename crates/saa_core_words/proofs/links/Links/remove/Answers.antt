-- The neighbours of the place are linked to each other; where it has none on a side, that end of the line moves.
use Rattle.std.proofs.Common.{◌≡◌, length, refl, ap, ◌∙◌, arith}
use Rattle.saa_core_words.specs.declared.line_word.LineWord.{LineWord}
use Rattle.saa_core_words.specs.Links.{Waiters, IsLinked, followed, words_in}
use Rattle.saa_core_words.proofs.Linking.{IsLinked-followed, IsLinked-left, IsLinked-older, IsLinked-newer}
use Rattle.saa_core_words.proofs.links.Links.remove.Goals as goal

pub set_newer-requires : goal.set_newer-requires
set_newer-requires g c =
    let lines : followed (words_in c.self.inside.words.items) g.K.Requests.read c.self.inside.waiting c.self.inside.oldest ≡ c.args.self.now.line = ap (λ (s : Waiters). s.line) c.self.view_is in
    let room : length c.self.inside.words.items ≡ c.args.self.now.room = ap (λ (s : Waiters). s.room) c.self.view_is in
    let was : IsLinked g.K.Requests.read c.self.inside.words.items c.self.inside.oldest c.self.inside.newest c.self.inside.waiting c.args.self.now.line = rw (← lines) c.self.invariant in
    rw c.load-word.ensures (IsLinked-older _ _ _ _ _ _ c.args.place was (omega (arith, c.requires)))

pub set_older-requires : goal.set_older-requires
set_older-requires g c =
    let lines : followed (words_in c.self.inside.words.items) g.K.Requests.read c.self.inside.waiting c.self.inside.oldest ≡ c.args.self.now.line = ap (λ (s : Waiters). s.line) c.self.view_is in
    let room : length c.self.inside.words.items ≡ c.args.self.now.room = ap (λ (s : Waiters). s.room) c.self.view_is in
    let was : IsLinked g.K.Requests.read c.self.inside.words.items c.self.inside.oldest c.self.inside.newest c.self.inside.waiting c.args.self.now.line = rw (← lines) c.self.invariant in
    rw (c.load-word.ensures, c.set_newer.ensures.size) (IsLinked-newer _ _ _ _ _ _ c.args.place was (omega (arith, c.requires)))

pub invariant_of-self : goal.invariant_of-self
invariant_of-self g c =
    let lines : followed (words_in c.self.inside.words.items) g.K.Requests.read c.self.inside.waiting c.self.inside.oldest ≡ c.args.self.now.line = ap (λ (s : Waiters). s.line) c.self.view_is in
    let room : length c.self.inside.words.items ≡ c.args.self.now.room = ap (λ (s : Waiters). s.room) c.self.view_is in
    let was : IsLinked g.K.Requests.read c.self.inside.words.items c.self.inside.oldest c.self.inside.newest c.self.inside.waiting c.args.self.now.line = rw (← lines) c.self.invariant in
    let is = IsLinked-left g.K.Requests.read c.self.inside.words.items c.set_older.new.words.items c.self.inside.oldest c.self.inside.newest c.self.inside.waiting
    c.args.self.now.line c.args.place c.load-word.result was c.load-word.ensures c.requires (c.set_older.ensures.size ∙ c.set_newer.ensures.size)
    (record {
      same = λ other there before behind. c.set_older.ensures.same other behind ∙ c.set_newer.ensures.same other before;
      before = λ other there before behind. c.set_older.ensures.same other behind ∙ c.set_newer.ensures.written other before;
      behind = λ other there behind before. c.set_older.ensures.written other behind ∙ ap (λ (w : LineWord). record w { older = c.load-word.result.older }) (c.set_newer.ensures.same other before);
    }) in
    let met = IsLinked-followed _ _ _ _ _ _ is in
    rw (c.end_after-self-inside.ensures, c.end_after-self-inside-2.ensures, met) is

pub returns : goal.returns
returns g c =
    let lines : followed (words_in c.self.inside.words.items) g.K.Requests.read c.self.inside.waiting c.self.inside.oldest ≡ c.args.self.now.line = ap (λ (s : Waiters). s.line) c.self.view_is in
    let room : length c.self.inside.words.items ≡ c.args.self.now.room = ap (λ (s : Waiters). s.room) c.self.view_is in
    let was : IsLinked g.K.Requests.read c.self.inside.words.items c.self.inside.oldest c.self.inside.newest c.self.inside.waiting c.args.self.now.line = rw (← lines) c.self.invariant in
    let is = IsLinked-left g.K.Requests.read c.self.inside.words.items c.set_older.new.words.items c.self.inside.oldest c.self.inside.newest c.self.inside.waiting
    c.args.self.now.line c.args.place c.load-word.result was c.load-word.ensures c.requires (c.set_older.ensures.size ∙ c.set_newer.ensures.size)
    (record {
      same = λ other there before behind. c.set_older.ensures.same other behind ∙ c.set_newer.ensures.same other before;
      before = λ other there before behind. c.set_older.ensures.same other behind ∙ c.set_newer.ensures.written other before;
      behind = λ other there behind before. c.set_older.ensures.written other behind ∙ ap (λ (w : LineWord). record w { older = c.load-word.result.older }) (c.set_newer.ensures.same other before);
    }) in
    let met = IsLinked-followed _ _ _ _ _ _ is in
    let size : length c.set_older.new.words.items ≡ c.args.self.now.room = c.set_older.ensures.size ∙ c.set_newer.ensures.size ∙ room in
    rw (c.end_after-self-inside.ensures, met, size) refl
