-- A history that replays still does once one more command is written, with its reply.
use Rattle.std.proofs.Common.{◌≡◌, ℕ, List, [], ◌∷◌, ◌++◌, Result, refl, sym, ap, ◌∙◌}
use Rattle.saa_core_spec.specs.declared.request.Request.{Request}
use Rattle.saa_core_spec.specs.declared.polling.Error.{Error}
use Rattle.saa_core_spec.specs.declared.run.CommandOf.{CommandOf}
use Rattle.saa_core_spec.specs.declared.run.ReplyOf.{ReplyOf}
use Rattle.saa_core_spec.specs.Object.{Object, After}
use Rattle.saa_core_spec.specs.Run.{done, replies, state_after}
use Rattle.saa_core_bench.specs.History.{Replays, commands_of, replies_of}

module _ {C K A V : Type 0} (request : K → Request) (step : C → Object → After A) (value : Result ℕ Error → V) (command : CommandOf C K) (reply : ReplyOf A V) where
  -- the state that it leaves, and the replies that it gives
  state-written : (history : List (CommandOf C K × ReplyOf A V)) (s : Object)
      → state_after request step value (commands_of (history ++ (command, reply) ∷ [])) s
      ≡ (done request step value command (state_after request step value (commands_of history) s)).state
  state-written [] s = refl
  state-written (entry ∷ history) s = state-written history (done request step value entry.0 s).state

  replies-written : (history : List (CommandOf C K × ReplyOf A V)) (s : Object)
      → replies request step value (commands_of (history ++ (command, reply) ∷ [])) s
      ≡ replies request step value (commands_of history) s
      ++ (done request step value command (state_after request step value (commands_of history) s)).reply ∷ []
  replies-written [] s = refl
  replies-written (entry ∷ history) s =
      ap (λ rest. (done request step value entry.0 s).reply ∷ rest) (replies-written history (done request step value entry.0 s).state)

  replies_of-written : (history : List (CommandOf C K × ReplyOf A V)) → replies_of (history ++ (command, reply) ∷ []) ≡ replies_of history ++ reply ∷ []
  replies_of-written [] = refl
  replies_of-written (entry ∷ history) = ap (λ rest. entry.1 ∷ rest) (replies_of-written history)

  pub replays-written : (opening mid now : Object) (history : List (CommandOf C K × ReplyOf A V)) → Replays request step value opening history mid
      → done request step value command mid ≡ record { state = now; reply = reply }
      → Replays request step value opening (history ++ (command, reply) ∷ []) now
  replays-written opening mid now history replays doing =
      let does : done request step value command (state_after request step value (commands_of history) opening) ≡ record { state = now; reply = reply } = ap (done request step value command) replays.left ∙ doing in
      record {
        replied = replies-written history opening
            ∙ ap (λ list. list ++ (done request step value command (state_after request step value (commands_of history) opening)).reply ∷ []) replays.replied
            ∙ ap (λ after. replies_of history ++ after.reply ∷ []) does
            ∙ sym (replies_of-written history);
        left = state-written history opening ∙ ap (λ after. after.state) does;
      }
